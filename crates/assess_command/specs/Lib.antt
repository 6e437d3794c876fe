pub mod Household
pub mod Assess
