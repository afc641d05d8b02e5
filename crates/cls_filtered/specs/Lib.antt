pub mod Faults
pub mod Filtered
pub mod Laws
pub mod Makings
pub mod States
pub mod StepBooks
pub mod Stepwise
