pub mod Readings
pub mod Completing
pub mod Cases
pub mod Places
pub mod HandedOn
pub mod Rewriting
