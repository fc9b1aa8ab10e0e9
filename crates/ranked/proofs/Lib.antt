-- That the search's model is the meaning on a lawful set, and what follows for each way out of the question.
pub mod Offers
pub mod Entries
pub mod Under
pub mod Ways
