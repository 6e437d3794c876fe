pub mod OneList
mod Fields
mod Heading
