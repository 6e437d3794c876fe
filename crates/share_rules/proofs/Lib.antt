pub mod SharesAdd
