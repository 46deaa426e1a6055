pub mod Reaching
pub mod Loading
pub mod Ancestors
pub mod Same
pub mod Slots
