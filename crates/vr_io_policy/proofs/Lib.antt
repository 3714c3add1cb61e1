pub mod Between
mod Commands
mod Fair
mod First
mod Gathering
mod Holding
pub mod Left
mod Marks
pub mod Over
mod Speaking
