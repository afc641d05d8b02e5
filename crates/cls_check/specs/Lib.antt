-- Begin with Checking, which says when a certificate is accepted.
pub mod Arguments
pub mod Asking
pub mod Checking
pub mod Deciding
pub mod Found
pub mod Goals
pub mod Known
pub mod Laws
pub mod Layers
pub mod Near
pub mod Places
pub mod Tests
pub mod Verdicts
