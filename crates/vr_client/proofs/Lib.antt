pub mod Keeping
pub mod Naming
pub mod Sizes
pub mod Turns
pub mod Waits
