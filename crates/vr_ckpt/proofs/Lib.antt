pub mod Contents
pub mod Made
pub mod Placing
pub mod Puts
pub mod Readings
pub mod Apart
mod Below
pub mod Done
pub mod Gathering
pub mod Keeping
pub mod Planning
pub mod Roots
mod Rows
pub mod Sealed
