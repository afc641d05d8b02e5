pub mod Changes
pub mod Counts
pub mod NameLists
pub mod Parts
pub mod Pathless
pub mod PathLists
pub mod Puts
pub mod Several
pub mod Sizes
pub mod SmallTypes
pub mod Steps
pub mod Uppers
mod SameNames
mod Sums
