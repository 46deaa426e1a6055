pub mod Buffers
pub mod Numbers
pub mod Trips
pub mod Steps
pub mod FileTrips
