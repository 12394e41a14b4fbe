pub mod Hash
pub mod Lawful
pub mod Begun
pub mod Hmac
pub mod Prf
pub mod Secrets
pub mod Keyed
pub mod Promise
