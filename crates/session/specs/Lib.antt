-- What a keystroke computes, on any words; and what it promises.
pub mod Strokes
pub mod Promises
