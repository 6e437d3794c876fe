pub mod Words
pub mod Points
pub mod Keyed
pub mod Ordered
pub mod Places
mod Rows
