pub mod Ring
pub mod SumLaws
pub mod Floors
pub mod Verdicts
pub mod Tables
pub mod Sizes
pub mod Walks
