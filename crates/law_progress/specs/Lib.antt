pub mod Whole
pub mod Deciding
pub mod Answering
pub mod Agreeing
