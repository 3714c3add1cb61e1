pub mod Finding
pub mod Recovering
pub mod Migration
pub mod Making
pub mod Calls
