pub mod Below
pub mod Words
pub mod Lists
pub mod Sound
pub mod Standing
pub mod Next
pub mod Reviewed
pub mod Annuals
