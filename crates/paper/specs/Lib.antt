pub mod Session
pub mod Examples
