pub mod Passed
pub mod Days
pub mod Plans
pub mod Earlier
pub mod Headed
pub mod Members
pub mod NoneStale
pub mod Exactly
