pub mod Brought
mod Groups
pub mod Growing
pub mod Sent
