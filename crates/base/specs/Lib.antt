-- What the finder's definitions are made of.
pub mod Lists
pub mod Bits
pub mod Lent
