pub mod Above
pub mod Calls
pub mod Shown
