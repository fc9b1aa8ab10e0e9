-- A table's columns by place; where a node's stands end, what a walk has behind it there, what its regions hold; and the words of it all.
pub mod ByStand
pub mod Blocks
pub mod Numbers
pub mod Trails
pub mod Held
pub mod Whole
pub mod Answers
pub mod Outcomes
