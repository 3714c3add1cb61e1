pub mod Parts
pub mod Run
pub mod Script
pub mod Told
