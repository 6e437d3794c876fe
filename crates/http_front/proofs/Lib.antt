pub mod Seen
pub mod ForPass
pub mod Together
