-- From a sample up to the whole claim, in the order of reading.
pub mod Sample
pub mod Neuron
pub mod Codes
pub mod Plan
pub mod Network
pub mod Run
pub mod Faults
pub mod Laws
pub mod Refusals
pub mod Claim
pub mod Reading
pub mod Walk
pub mod Gathered
pub mod Placing
pub mod Plain
pub mod Seen
pub mod Admitted
