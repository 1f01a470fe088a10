mod Reading
pub mod Printing
pub mod Promises
mod Determined
