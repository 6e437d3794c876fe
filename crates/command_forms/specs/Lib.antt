pub mod Fields
pub mod Kinds
pub mod Property
pub mod Applicants
pub mod Changes
pub mod Commands
pub mod Holdable
