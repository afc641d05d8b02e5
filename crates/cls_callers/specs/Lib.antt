-- Begin with Asking.
pub mod AskGoals
pub mod AskLaws
pub mod Asking
pub mod Known
pub mod Laws
pub mod Unions
