pub mod Ledger
pub mod Verdicts
pub mod Run
pub mod Tally
pub mod Law
pub mod Case
