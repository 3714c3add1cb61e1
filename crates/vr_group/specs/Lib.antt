pub mod Letters
pub mod Outputs
pub mod Hosts
pub mod Deeds
pub mod Group
pub mod Lines
pub mod Headline
pub mod Views
