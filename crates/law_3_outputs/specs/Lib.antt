pub mod Followed
pub mod Answering
pub mod Replied
pub mod Picked
pub mod OutputLaws
pub mod Written
pub mod Ordered
