pub mod Below
pub mod Matter
pub mod Moves
pub mod Judged
