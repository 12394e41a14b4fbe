pub mod Functions32
pub mod Functions64
pub mod Constants32
pub mod Constants64
pub mod Kinds
pub mod Layout
pub mod Takes
