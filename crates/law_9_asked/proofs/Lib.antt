pub mod Tracing
pub mod Reacting
pub mod Scripts
pub mod Made
pub mod Origins
pub mod Fronts
pub mod Executing
pub mod Ordered
