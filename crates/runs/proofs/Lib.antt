-- Laws of what there is to look at for a rectangle: the noting of entries, one stand, the whole, a walk through the runs, and what it all means
-- on a lawful set.
pub mod Noting
pub mod Noted
pub mod Sights
pub mod Walks
pub mod Meaning
pub mod Promises
