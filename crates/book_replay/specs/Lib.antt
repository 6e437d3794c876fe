pub mod Below
pub mod Order
pub mod Replay
pub mod Texts
