pub mod Calendar
pub mod DayText
pub mod OfficeDays
pub mod RentBounds
pub mod Rounding
