pub mod Rule
pub mod Shares
pub mod SharedOut
pub mod Ends
pub mod Figures
pub mod Rules
