pub mod Below
pub mod Opening
pub mod OpenBook
pub mod Serving
