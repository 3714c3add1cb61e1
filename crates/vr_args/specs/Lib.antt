pub mod Asked
pub mod Forms
