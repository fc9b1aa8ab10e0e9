-- What the code reckons of one node from a table's columns: models for the proofs, which nobody has to believe.
-- Columns has what lies under a node, Lent the columns that a call is lent, Visits the walk through the nodes, Rows the words of one, Asks
-- what the calls are given.
pub mod Columns
pub mod Lent
pub mod Visits
pub mod Rows
pub mod Asks
