pub mod Made
pub mod Summing
pub mod Heard
pub mod Soaking
pub mod Ends
pub mod Headline
