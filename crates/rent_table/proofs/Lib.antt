pub mod Words
pub mod ByName
pub mod OwnLemmas
pub mod StandingLemmas
pub mod FoundLemmas
