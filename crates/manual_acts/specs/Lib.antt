pub mod Days
pub mod Commands
pub mod Records
pub mod Taken
pub mod Page
pub mod Year
