pub mod Laws
mod Records
pub mod Promises
mod Determined
