pub mod Laws
mod Determined
