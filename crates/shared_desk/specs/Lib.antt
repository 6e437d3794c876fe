pub mod Unnamed
pub mod History
pub mod Deciding
pub mod Calls
pub mod Passes
pub mod Desk
