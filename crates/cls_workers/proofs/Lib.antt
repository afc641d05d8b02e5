pub mod Captures
pub mod SameTag
