pub mod Batches
pub mod Completing
pub mod Counting
pub mod Filing
pub mod Lawful
pub mod Seating
pub mod Sent
