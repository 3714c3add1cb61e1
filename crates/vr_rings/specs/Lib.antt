pub mod Calls
pub mod Held
pub mod Laws
pub mod Moving
pub mod Readings
pub mod Slots
