mod Statuses
mod Logs
mod SeatLemmas
mod Leaving
mod Together
