pub mod Answered
pub mod Drawing
pub mod Texts
pub mod Fitting
mod Rows
