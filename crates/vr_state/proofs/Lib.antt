pub mod Fronts
pub mod Maps
pub mod Tables
pub mod Meanings
pub mod Places
pub mod KvSteps
pub mod KvTexts
mod KvRows
pub mod Ascending
pub mod Asking
pub mod Eldest
pub mod Lookups
pub mod SessionNumbers
pub mod Fitting
mod Lengths
pub mod Spelled
pub mod SessionSteps
pub mod Values
mod SessionRows
pub mod TextFronts
pub mod Numbers
pub mod Once
pub mod Stored
