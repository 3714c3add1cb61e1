pub mod Acts
pub mod Asking
pub mod Run
pub mod Text
