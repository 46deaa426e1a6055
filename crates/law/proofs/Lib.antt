pub mod Case
pub mod Books
pub mod Bounds
pub mod Accepted
pub mod Balance
pub mod Kept
pub mod Steps
