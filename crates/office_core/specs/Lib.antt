pub mod Below
pub mod Planned
pub mod Judged
pub mod Held
pub mod Replaying
pub mod Office
pub mod Opening
