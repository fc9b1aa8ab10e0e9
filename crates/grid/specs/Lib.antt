-- What the code of this crate computes; what is meant stands in the crate `rules`.
pub mod Ways
pub mod Cells
