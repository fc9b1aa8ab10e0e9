-- Promises has what the question promises from a listing; Scans what the code makes of the stands there, on any words.
pub mod Scans
pub mod Promises
