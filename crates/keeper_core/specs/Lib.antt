pub mod Keeping
pub mod Planned
