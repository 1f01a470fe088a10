mod Small
mod Words
mod Copies
mod Determined
mod Refusals
