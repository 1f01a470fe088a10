mod Words
mod Determined
mod Refusals
