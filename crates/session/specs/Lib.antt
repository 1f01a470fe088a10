pub mod Session
pub mod Lines
