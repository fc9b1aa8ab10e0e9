-- Laws of keystrokes: the steps by their tests, the session of a text, the promises kept.
pub mod Steps
pub mod Letters
pub mod Texts
pub mod Lawful
pub mod Promises
pub mod Sessions
