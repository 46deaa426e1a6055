pub mod Costs
pub mod Better
pub mod Beyond
pub mod Tallying
pub mod Within
