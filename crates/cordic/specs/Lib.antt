-- From a direction up to what a unit refuses and where it ends, in the order of reading.
pub mod Mode
pub mod Order
pub mod Tables
pub mod Series
pub mod Outcome
pub mod Faults
pub mod Unit
pub mod Rows
pub mod Seen
pub mod Halted
pub mod Advanced
pub mod Names
