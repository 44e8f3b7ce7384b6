-- What a stage is loaded with, the digits of a plan, and the digest.
pub mod Start
pub mod Digits
pub mod Digest
