pub mod ChoiceLaws
pub mod Choosing
pub mod Counting
pub mod Going
pub mod InstanceLaws
pub mod KindLaws
pub mod LargestLaws
pub mod Pruning
