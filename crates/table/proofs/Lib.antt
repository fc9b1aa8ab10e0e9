-- The laws that the proofs of `table` cite beyond those of base and rules; and that the rest of a name has one outcome, which is that of the folded text.
pub mod Parts
pub mod Outcomes
