-- What building writes, by a table's columns: models for the proofs, which nobody has to believe.
-- Over has words in a lent room and the stand order, Words the words of all nodes.
pub mod Over
pub mod Words
