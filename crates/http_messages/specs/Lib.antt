pub mod Cutting
pub mod Incoming
pub mod Messages
pub mod Reads
