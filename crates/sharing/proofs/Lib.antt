pub mod Ranges
pub mod Totals
pub mod Law
pub mod InOrder
pub mod Made
pub mod Extremes
