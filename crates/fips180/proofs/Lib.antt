pub mod Elements
pub mod Lengths
pub mod Taken
pub mod Laid
