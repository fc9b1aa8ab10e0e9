-- Laws of keys, of the loop that puts one in its place, and of what is held of a stream.
pub mod Keys
pub mod Shifts
pub mod Offers
pub mod Streams
