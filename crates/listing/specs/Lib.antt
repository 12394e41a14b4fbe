pub mod Texts
pub mod Listing
pub mod Steps
