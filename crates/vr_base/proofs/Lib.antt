pub mod AreBytes
pub mod Count
pub mod FieldLaws
pub mod Members
pub mod Places
mod Rows
mod SameNames
pub mod Sets
pub mod Versions
pub mod Writing
pub mod ZeroLaws
pub mod Counting
