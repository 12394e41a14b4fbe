pub mod Alone
pub mod Carrying
pub mod Entering
pub mod Further
pub mod Letting
pub mod Room
pub mod Smaller
