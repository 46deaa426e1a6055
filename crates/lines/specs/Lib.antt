pub mod Putting
pub mod Texts
pub mod Closings
pub mod Tails
pub mod Sides
