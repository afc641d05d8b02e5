pub mod Heaps
pub mod Nodes
