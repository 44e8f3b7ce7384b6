pub mod Settling
pub mod Recording
pub mod Carry
pub mod Signs
