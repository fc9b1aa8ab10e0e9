-- The columns of a table, by the definitions; what the code answers and writes from them; and what building promises.
pub mod Columns
pub mod Promises
pub mod Written
