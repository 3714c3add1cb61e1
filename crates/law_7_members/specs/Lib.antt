pub mod Deeds
pub mod Files
pub mod Runs
pub mod Whole
pub mod Laws
pub mod Ends
pub mod Left
pub mod Migrations
