pub mod Again
pub mod Asks
pub mod Sent
