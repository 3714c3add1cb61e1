pub mod Clearing
pub mod Ends
pub mod Faces
pub mod Frames
pub mod Fuses
pub mod Halting
pub mod Outcomes
mod Rows
pub mod Places
pub mod Running
pub mod Together
pub mod SectorSteps
pub mod Stopping
pub mod Telling
