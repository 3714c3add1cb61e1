pub mod Counts
pub mod Commits
pub mod Prepares
pub mod Requests
