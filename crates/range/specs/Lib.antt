-- Promises has what the question promises from a listing; Fetches what the code makes of the stands there, on any words.
pub mod Fetches
pub mod Promises
