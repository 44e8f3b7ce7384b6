pub mod Counts
pub mod Ending
