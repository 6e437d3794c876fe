mod Results
mod Filled
pub mod Causes
mod Transactions
mod Made
mod Makeable
