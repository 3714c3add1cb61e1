pub mod Words
pub mod Rules
pub mod Runs
pub mod Acting
pub mod Telling
pub mod Versions
