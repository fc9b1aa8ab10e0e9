-- What the ranked question promises.
pub mod Promises
