pub mod Bounds
pub mod Choices
pub mod Columns
pub mod Gaps
pub mod Intact
pub mod Logs
pub mod Nacks
pub mod Named
pub mod Order
pub mod Rests
mod Rows
pub mod Standing
pub mod Wholes
