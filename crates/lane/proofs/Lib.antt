pub mod Takes
pub mod Counts
pub mod Shares
pub mod Joins
