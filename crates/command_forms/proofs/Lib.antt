pub mod Fields
pub mod CommandStands
pub mod CommandAgain
