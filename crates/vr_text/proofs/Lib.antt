pub mod Fronts
pub mod Letters
pub mod Plain
mod Rows
