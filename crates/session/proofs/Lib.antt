pub mod LongLines
pub mod Cutting
mod OpenLine
mod ByLines
pub mod Feeding
pub mod Promises
mod Determined
