-- The letter tree and what its laws speak of. Meaning says in plain words what the definitions of the rules come to.
pub mod Trees
pub mod Adding
pub mod Meaning
