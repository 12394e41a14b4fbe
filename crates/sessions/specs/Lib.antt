pub mod Book
pub mod History
pub mod Keeps
pub mod Promises
pub mod Demand3
pub mod Places
pub mod OneRow
pub mod Order3
