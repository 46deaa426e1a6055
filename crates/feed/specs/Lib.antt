pub mod Numbers
pub mod Kinds
pub mod Entries
pub mod Front
pub mod Reading
pub mod Filling
pub mod Runs
pub mod CurveFile
