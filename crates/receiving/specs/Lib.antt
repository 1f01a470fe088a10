pub mod Receiver
pub mod Arriving
pub mod Taking
pub mod Takes
pub mod Stage
pub mod Ready
