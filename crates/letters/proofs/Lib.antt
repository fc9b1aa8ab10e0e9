-- Laws of the questions on a session's letters: their ways out, and that they come to what the same text given afresh does.
pub mod Ways
pub mod Afresh
