pub mod Numbers
pub mod OneRoute
pub mod Rows
pub mod Tokens
pub mod Walks
