pub mod Books
pub mod Changes
pub mod Enrolling
pub mod Laws
pub mod Rules
pub mod Sheets
