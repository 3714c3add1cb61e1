pub mod Acting
pub mod Beside
pub mod Shelves
pub mod Stories
pub mod Telling
pub mod Worlds
