pub mod Making
pub mod Coming
pub mod Hearing
pub mod Answering
pub mod Asking
mod Writing
mod Instance
pub mod Acting
pub mod Sessions
pub mod Timing
pub mod Counting
pub mod Few
pub mod Outcomes
mod Lasting
pub mod Interleaving
pub mod OrderInstance
mod Started
