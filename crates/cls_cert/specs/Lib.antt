-- Begin with Making, which says which certificate is made. Left says what is left of it while it is written, and Computed which
-- lists that makes. Building says the same of the code's parts.
pub mod Building
pub mod Computed
pub mod Conditions
pub mod CoverLists
pub mod Laws
pub mod Left
pub mod Making
pub mod Sorting
pub mod Subsets
