-- Laws of the models, and the loops over plain lists: begin, step, end.
pub mod Overs
pub mod Filling
pub mod Orders
pub mod Passes
pub mod Turns
pub mod Walks
pub mod Writes
pub mod Checks
