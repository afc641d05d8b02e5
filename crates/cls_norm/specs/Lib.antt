pub mod Fit
pub mod Names
pub mod PathLists
pub mod Subtypes
