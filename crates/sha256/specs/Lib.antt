pub mod Constants
pub mod Compress
pub mod Sha256
pub mod Layout
pub mod Running
pub mod Begins
pub mod Promise
pub mod Laws
