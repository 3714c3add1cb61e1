pub mod Good
pub mod Answers
pub mod Counts
pub mod Coming
pub mod OneLog
pub mod Lines
pub mod Begun
