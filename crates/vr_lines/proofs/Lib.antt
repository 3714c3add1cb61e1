pub mod Answers
pub mod Digits
pub mod FirstWord
pub mod Operations
pub mod Fitting
pub mod Cutting
pub mod Holding
pub mod Giving
pub mod Coming
mod Rows
