-- Laws of the models, and the loops over plain lists: begin, step, end.
pub mod Ends
pub mod Held
pub mod Ranking
pub mod Placing
pub mod Steps
pub mod Gathering
