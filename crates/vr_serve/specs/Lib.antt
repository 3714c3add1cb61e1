pub mod Causes
pub mod Events
pub mod Laws
pub mod Outgoing
pub mod Outputs
pub mod Runs
pub mod Sending
pub mod Serving
