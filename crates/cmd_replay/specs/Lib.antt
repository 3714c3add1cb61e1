pub mod Schedule
pub mod Playing
pub mod Stops
pub mod Run
pub mod Headline
