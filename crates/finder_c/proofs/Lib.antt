-- What the proofs of several calls use; and that each call has one outcome.
mod Rests
mod Told
pub mod Settled
