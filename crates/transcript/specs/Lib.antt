pub mod Choice
pub mod Allowance
pub mod Carries
pub mod Told
pub mod Promise
pub mod Laws
