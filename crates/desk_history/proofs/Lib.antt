pub mod Fronts
pub mod Entries
pub mod Places
pub mod Steps
pub mod Comings
pub mod Notes
pub mod Following
