pub mod Batches
pub mod Completing
pub mod Filings
pub mod Holdings
pub mod Lawful
pub mod Seating
pub mod Seen
pub mod Tags
