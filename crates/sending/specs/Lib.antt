pub mod Sender
pub mod InTheory
