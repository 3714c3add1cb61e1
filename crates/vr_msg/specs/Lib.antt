pub mod Asking
pub mod Choice
pub mod Forms
pub mod Logs
pub mod Normal
pub mod Numbers
pub mod Spelling
