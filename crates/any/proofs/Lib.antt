-- Laws of the question whether there is any stand: its scan, loop by loop, and that it keeps its promise.
pub mod Scans
pub mod Promises
