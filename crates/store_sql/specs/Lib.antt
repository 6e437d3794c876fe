pub mod Cells
pub mod Tables
pub mod Columns
pub mod Schema
pub mod Trees
pub mod Takes
pub mod Types
