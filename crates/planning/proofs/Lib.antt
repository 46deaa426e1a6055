pub mod Planning
pub mod Charging
pub mod Priced
