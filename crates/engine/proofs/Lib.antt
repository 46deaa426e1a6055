pub mod Told
pub mod Advanced
pub mod Led
