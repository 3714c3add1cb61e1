pub mod Takes
pub mod Choices
pub mod Changes
pub mod States
pub mod Starts
pub mod Copies
pub mod Syncs
pub mod Jumps
