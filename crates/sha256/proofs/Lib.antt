pub mod Alone
pub mod Counting
pub mod Further
pub mod FirstBlock
pub mod OneShot
pub mod Rounds
