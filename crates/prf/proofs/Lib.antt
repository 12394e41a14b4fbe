pub mod Lawful
pub mod Lengths
pub mod Masks
pub mod Keys
pub mod Numbers
pub mod Answers
pub mod Chains
