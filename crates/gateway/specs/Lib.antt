pub mod Hellos
pub mod Readings
pub mod Completion
pub mod Cases
pub mod Places
pub mod HandedOn
pub mod Rewriting
