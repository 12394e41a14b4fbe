pub mod Differences
pub mod Comparison
pub mod Longest
pub mod Promise
pub mod Exact
pub mod Steps
pub mod Pages
