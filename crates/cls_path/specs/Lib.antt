-- Begin with Paths and NormalForms. What is proved of the other modules ties them to these.
pub mod Falls
pub mod Feed
pub mod Groups
pub mod Insertion
pub mod Labels
pub mod Laws
pub mod NormalForms
pub mod OrderLaws
pub mod PathOrder
pub mod PathLists
pub mod Paths
pub mod Seen
pub mod Sizes
pub mod Stored
pub mod Tests
