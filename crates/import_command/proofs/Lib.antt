pub mod Below
mod SoFar
