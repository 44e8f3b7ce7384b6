-- From the numbers of a field up to what each call writes.
pub mod Fields
pub mod Feeds
pub mod Reports
pub mod Rotations
