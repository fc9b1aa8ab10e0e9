-- Laws of the search, one turn or one way out at a time.
pub mod Asking
pub mod Reading
pub mod Keeping
pub mod Legs
pub mod Offering
pub mod Taking
pub mod Writing
pub mod Answering
pub mod PassingOver
