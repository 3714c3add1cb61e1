pub mod Blocks
pub mod Grid
pub mod GridLaws
pub mod Laws
pub mod Loads
pub mod Places
pub mod Saves
