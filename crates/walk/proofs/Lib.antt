-- Laws of walks: one turn among siblings and one letter, as the code goes them; and what a walk finds on lawful words.
pub mod Steps
pub mod Lawful
pub mod Spelled
pub mod Listed
pub mod Asked
