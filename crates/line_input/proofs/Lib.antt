pub mod Ends
pub mod Comes
pub mod Passed
pub mod Whole
