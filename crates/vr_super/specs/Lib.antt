pub mod Calls
pub mod Copies
pub mod Laws
pub mod Opens
pub mod Recovers
pub mod Seen
