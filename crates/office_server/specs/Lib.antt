pub mod Links
pub mod Server
pub mod Together
