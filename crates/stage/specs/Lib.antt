-- From the word up to what each kind of stage notes, in the order of reading.
pub mod Word
pub mod Direction
pub mod Step
pub mod Stage
pub mod Adder
pub mod Recorder
pub mod Probe
pub mod Names
