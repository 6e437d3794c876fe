pub mod Completeness
pub mod Replies
pub mod Sessions
pub mod Turns
