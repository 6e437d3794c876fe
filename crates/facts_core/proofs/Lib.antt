pub mod FactsStand
