mod More
mod Sums
