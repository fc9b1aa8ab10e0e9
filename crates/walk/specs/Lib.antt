-- What a walk along the nodes' words computes, on any words, and what it is to find on lawful ones; where it leads, and one entry of it;
-- what a question promises that starts there.
pub mod Walks
pub mod Nodes
pub mod Listings
pub mod Entries
pub mod Asked
