-- Begin with Parts.
pub mod Parts
pub mod Slots
pub mod Updates
