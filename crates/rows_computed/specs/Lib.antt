pub mod Rows
pub mod Pending
pub mod Runs
pub mod Few
