pub mod Path
pub mod Form
pub mod Gives
pub mod Written
