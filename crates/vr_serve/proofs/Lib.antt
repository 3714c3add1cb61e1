pub mod Cutting
pub mod Ending
pub mod Keeping
pub mod Outputs
pub mod Running
pub mod Stilling
pub mod Turning
pub mod Whole
