pub mod Sending
pub mod FirstForm
pub mod Demands
pub mod System
pub mod Words
pub mod FarEnd
