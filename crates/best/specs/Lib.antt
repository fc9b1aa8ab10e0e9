-- What is held of a stream: keys of hits, and the k largest of them.
pub mod Keys
pub mod Holds
