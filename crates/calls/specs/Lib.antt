pub mod Plain
pub mod Table
pub mod Outcomes
pub mod Frame
pub mod Edges
