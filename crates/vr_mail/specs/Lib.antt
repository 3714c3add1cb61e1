pub mod Letters
pub mod Sends
