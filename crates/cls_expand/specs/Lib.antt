-- Begin with Answers.
pub mod Answers
pub mod ByComponent
pub mod Determined
pub mod Laws
pub mod Listing
pub mod Making
pub mod Memos
pub mod Readiness
pub mod Typings
