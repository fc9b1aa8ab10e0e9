-- What the C calls promise.
pub mod Told
