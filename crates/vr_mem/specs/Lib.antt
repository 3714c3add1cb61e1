pub mod Calls
pub mod Cells
pub mod Honesty
pub mod Owed
pub mod Told
pub mod Lies
pub mod Seen
