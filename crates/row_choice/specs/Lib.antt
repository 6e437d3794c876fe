pub mod Latest
pub mod FirstDay
