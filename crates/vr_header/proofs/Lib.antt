pub mod AreBytes
pub mod BodyLaws
pub mod EntryLaws
pub mod Faults
pub mod HeaderLaws
pub mod NameLaws
mod Places
mod Rows
pub mod Truths
pub mod SameHeaders
pub mod Written
pub mod Putting
pub mod ChainLaws
