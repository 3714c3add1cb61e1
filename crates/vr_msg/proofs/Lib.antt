pub mod Same
pub mod Short
