pub mod Members
pub mod Income
pub mod Assets
pub mod Annual
pub mod WholeList
