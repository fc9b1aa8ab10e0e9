-- The desk program's input, by how it is written; what its stands are to the finder; what the program prints.
-- Reads and Says have no meaning of their own: Reads is what the code computes, line by line, and Says what its answers say of that.
pub mod Form
pub mod Columns
pub mod Answers
pub mod Printed
pub mod Scheme
pub mod Reads
pub mod Says
