-- That any sequence of calls comes out as the rules say; and that only the letters standing count.
pub mod Runs
pub mod Afresh
pub mod Scheme
