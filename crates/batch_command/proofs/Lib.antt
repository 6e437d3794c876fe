pub mod Below
pub mod More
pub mod SoFar
pub mod Ends
pub mod Runs
pub mod Steps
pub mod ToldBy
pub mod Stops
