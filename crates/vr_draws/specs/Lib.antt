pub mod Draws
pub mod Asking
pub mod Drawn
