-- Laws of lists, tests and words of bits, for any of the finder's proofs.
pub mod Tests
pub mod Scans
pub mod Members
pub mod Runs
pub mod Begins
pub mod Words
pub mod Lowest
pub mod Shuffles
pub mod Pairs
pub mod Sorts
pub mod Settling
pub mod Machine
pub mod Rows
pub mod Sums
pub mod Rooms
pub mod Chains
