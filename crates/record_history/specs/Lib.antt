pub mod Limits
pub mod Records
pub mod Held
pub mod Ordered
pub mod Households
pub mod Stretch
pub mod Runs
pub mod Law
