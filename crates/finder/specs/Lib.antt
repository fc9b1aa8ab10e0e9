-- Any sequence of calls on one session: what the calls promise of it, and what the rules say of it.
pub mod Runs
