pub mod Groups
pub mod Members
pub mod Seen
pub mod Story
pub mod Told
