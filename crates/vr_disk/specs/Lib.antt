pub mod Buffers
pub mod Counts
pub mod DiskState
pub mod Fronts
pub mod Regions
pub mod Sectors
pub mod Stops
pub mod Untouched
