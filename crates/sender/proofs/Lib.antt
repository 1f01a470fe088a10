mod Readying
mod Determined
