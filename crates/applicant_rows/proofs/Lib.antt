mod Rows
mod Seven
mod Fit
