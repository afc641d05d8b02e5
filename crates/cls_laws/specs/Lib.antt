pub mod Alike
pub mod Existence
pub mod FedBack
pub mod Histories
pub mod Live
pub mod Possible
pub mod Uniqueness
