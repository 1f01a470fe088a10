pub mod Laws
pub mod Ranges
pub mod Promises
mod Determined
