pub mod Fronts
pub mod Text
pub mod Plain
