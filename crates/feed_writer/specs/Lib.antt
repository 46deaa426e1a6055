pub mod Bytes
pub mod Writing
pub mod Fitting
pub mod Laws
pub mod CurveBytes
pub mod Lengths
