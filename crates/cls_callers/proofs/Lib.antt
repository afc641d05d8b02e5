pub mod KnownRows
pub mod Named
pub mod Picked
pub mod Sent
pub mod Unions
pub mod Within
pub mod Wrapped
