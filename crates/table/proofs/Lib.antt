mod Printing
pub mod Making
mod Determined
