pub mod Calls
pub mod Questions
pub mod Lines
