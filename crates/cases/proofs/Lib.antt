pub mod Bodies
pub mod Cases
pub mod Laid
pub mod Decimals
