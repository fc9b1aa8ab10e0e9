-- What the letters of any session are refused with. What the questions promise stands in the crate `rules`.
pub mod Letters
