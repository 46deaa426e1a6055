pub mod Market
pub mod Fixed
pub mod Tree
pub mod Places
pub mod Loaded
pub mod Trees
pub mod Slots
