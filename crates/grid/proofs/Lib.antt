-- Laws of signed metres, places, roots, ways, values and sets of regions; and what the rectangle's regions and the bounds are good for.
pub mod Signed
pub mod Floors
pub mod Steps
pub mod Compared
pub mod Squares
pub mod Distances
pub mod Rooting
pub mod Ways
pub mod Values
pub mod Spans
pub mod Rows
pub mod Sets
pub mod Listed
pub mod Covers
pub mod Outcomes
