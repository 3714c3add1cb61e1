pub mod Acts
pub mod Asking
pub mod Heeding
pub mod Laws
