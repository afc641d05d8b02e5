-- Begin with Finiteness and Walks.
pub mod Answers
pub mod Descents
pub mod Finiteness
pub mod Outcomes
pub mod Walks
