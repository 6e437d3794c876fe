pub mod Deductions
