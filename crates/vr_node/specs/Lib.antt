pub mod Ending
pub mod Moving
pub mod Opening
pub mod Running
pub mod Steps
pub mod Stops
