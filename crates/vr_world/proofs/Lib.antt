pub mod InTwo
pub mod Premises
pub mod FitLies
pub mod FitGroups
