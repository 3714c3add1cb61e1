mod Commands
pub mod Forming
pub mod Found
pub mod Rows
