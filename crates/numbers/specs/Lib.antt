pub mod Refusals
pub mod Checks
pub mod Coding
pub mod Writing
pub mod Wrap
