pub mod Checks
pub mod Laws
pub mod Promises
pub mod Tight
mod Determined
