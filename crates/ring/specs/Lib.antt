pub mod Ring
pub mod Queue
