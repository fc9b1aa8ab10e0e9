-- Lines of key=value, by how they are written, and that what is written is read back. Reads and Says have no meaning of their own:
-- Reads is what the code computes, and Says what its answers say of that.
pub mod Writing
pub mod Puts
pub mod Reads
pub mod Back
pub mod Says
