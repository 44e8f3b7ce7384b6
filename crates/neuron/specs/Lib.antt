-- What the program reads, decides and prints.
pub mod Input
pub mod Held
pub mod Verdict
pub mod Told
pub mod Refusals
pub mod Outputs
pub mod Printout
