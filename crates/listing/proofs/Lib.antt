pub mod Answers
pub mod Columns
pub mod Placing
pub mod Taking
pub mod Example
pub mod Going
