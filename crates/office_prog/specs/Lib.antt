pub mod Task
pub mod Run
pub mod Batch
pub mod Report
pub mod Import
