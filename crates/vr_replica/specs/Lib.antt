pub mod AtOnce
pub mod Ticks
pub mod Running
pub mod Entries
pub mod Bounds
