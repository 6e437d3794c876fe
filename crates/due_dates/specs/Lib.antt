pub mod Least
pub mod Rightful
pub mod Overdue
pub mod Stale
pub mod Review
pub mod Law
