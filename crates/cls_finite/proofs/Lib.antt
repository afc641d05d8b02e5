pub mod Advancing
pub mod Descending
pub mod Determined
pub mod Greatest
pub mod Stepping
pub mod Walking
