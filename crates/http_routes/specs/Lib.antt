pub mod Asks
pub mod Paths
pub mod Table
