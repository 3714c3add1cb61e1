pub mod Ready
pub mod Absent
pub mod Sends
pub mod Takes
pub mod States
pub mod Choosing
pub mod Jumps
pub mod Worn
