pub mod LatestLemmas
pub mod StandsLemmas
pub mod FirstDayLemmas
