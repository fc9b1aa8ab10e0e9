-- What holds of the definitions: the small scheme, places of a grid, roots, the order of names, folded texts, lawful tables,
-- that answers are told apart by their numbers, and that the questions agree.
pub mod Scheme
pub mod Places
pub mod Roots
pub mod Orders
pub mod Bytes
pub mod Folds
pub mod Names
pub mod Lawful
pub mod Refusals
pub mod Numbers
pub mod Outcomes
pub mod Any
