pub mod Hearing
pub mod Going
pub mod Asked
pub mod Headline
