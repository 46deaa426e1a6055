pub mod Puts
pub mod Accounts
