pub mod Seen
pub mod Moves
pub mod Rule
pub mod Laws
