pub mod Asking
pub mod Telling
pub mod Advancing
pub mod Courses
