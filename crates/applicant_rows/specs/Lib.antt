pub mod Applicants
pub mod Fields
