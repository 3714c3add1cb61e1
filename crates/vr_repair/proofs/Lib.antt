pub mod BlockReadings
pub mod Repaired
pub mod Rules
pub mod Words
pub mod Handled
pub mod Visits
