pub mod Text
pub mod Rows
pub mod Printing
