pub mod Products
pub mod Prices
pub mod Tables
pub mod Claims
pub mod Laws
pub mod Totals
