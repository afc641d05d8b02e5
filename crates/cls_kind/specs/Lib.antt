-- Begin with Instances.
pub mod Faults
pub mod Instances
pub mod Kinds
pub mod Laws
pub mod Pruned
pub mod Ranges
pub mod Stored
