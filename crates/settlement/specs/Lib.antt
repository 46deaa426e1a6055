pub mod Course
pub mod Calls
