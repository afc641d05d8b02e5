pub mod LineLaws
pub mod Spines
pub mod Tables
