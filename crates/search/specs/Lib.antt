-- What the search computes, on any words; what is meant stands in the crate `rules`, and that both agree in `ranked`.
pub mod Asked
pub mod Searches
pub mod PassingOver
