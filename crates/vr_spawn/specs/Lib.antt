pub mod Scripted
pub mod Spawning
