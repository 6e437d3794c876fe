pub mod Going
pub mod Settled
pub mod Ends
pub mod Fresh
pub mod Beginning
pub mod Further
pub mod Retired
pub mod Unbooked
