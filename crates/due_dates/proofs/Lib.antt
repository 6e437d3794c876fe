pub mod Words
pub mod LeastLemmas
pub mod MonthLemmas
pub mod RightfulLemmas
pub mod StaleLemmas
pub mod OtherRents
pub mod ReviewLemmas
