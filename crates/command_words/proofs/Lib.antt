pub mod Entering
pub mod Level
pub mod AllWords
mod Found
mod Hyphens
