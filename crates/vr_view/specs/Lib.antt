pub mod Logs
pub mod Named
pub mod Entering
pub mod Messages
pub mod NamedSyncs
pub mod Jumps
