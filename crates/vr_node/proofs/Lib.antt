pub mod Halts
pub mod Opened
pub mod Ends
