mod SoFar
pub mod GivenBack
