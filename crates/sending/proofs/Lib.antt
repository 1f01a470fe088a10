pub mod Laws
pub mod Steps
pub mod InTheory
pub mod Promises
