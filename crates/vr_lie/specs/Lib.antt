pub mod Faults
pub mod Laws
pub mod Table
pub mod Told
