pub mod Examples
mod Tests
pub mod Premises
pub mod Wrong
