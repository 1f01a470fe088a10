pub mod Words
pub mod Lanes
mod Determined
