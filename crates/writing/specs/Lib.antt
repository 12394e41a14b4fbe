pub mod Lists
pub mod Messages
pub mod Promise
pub mod Steps
pub mod RoundTrip
pub mod Examples
pub mod Lent
pub mod Tried
