-- All that the finder promises, as definitions that compute: docs/RULES.md says which rule stands where.
-- Numbers has the numbers of refusals and answers. The rest builds up: places, names, tables, questions, the index, the session.
pub mod Numbers
pub mod Places
pub mod Worth
pub mod Names
pub mod Tables
pub mod Questions
pub mod Outcomes
pub mod Indexes
pub mod Sessions
pub mod Promises
pub mod Scheme
