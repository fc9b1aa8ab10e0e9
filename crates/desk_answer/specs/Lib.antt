-- What the desk program's answer promises, from its input's bytes to the bytes that it prints.
pub mod Printing
pub mod Promises
