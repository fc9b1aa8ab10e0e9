-- Laws of the range question: the walk through the stands, its loops, the answer, and that it keeps its promise.
pub mod Gathers
pub mod Turns
pub mod Fills
pub mod Promises
