pub mod Automata
pub mod Laws
pub mod Lines
pub mod States
pub mod Tables
