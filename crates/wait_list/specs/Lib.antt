pub mod Waiting
pub mod Rank
pub mod Target
pub mod Next
pub mod Group
pub mod Wanted
pub mod RightfulNext
pub mod Ranked
