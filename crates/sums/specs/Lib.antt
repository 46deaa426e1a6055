pub mod Sums
pub mod Floor
pub mod Verdict
pub mod Laws
