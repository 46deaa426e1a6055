pub mod Accepted
pub mod Changing
pub mod Firsts
pub mod Outcomes
