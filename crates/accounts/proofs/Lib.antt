pub mod Moves
pub mod Outcome
pub mod Posts
pub mod ReadKinds
