-- Notes has what the entries' runs come to, Sights what there is to look at, Promises what a question about a rectangle promises.
-- Notes and Sights are what the code computes, on any words.
pub mod Notes
pub mod Sights
pub mod Runs
pub mod Promises
