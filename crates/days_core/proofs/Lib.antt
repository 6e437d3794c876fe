pub mod Bridge
pub mod DayTextLemmas
