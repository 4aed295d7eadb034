pub mod Kept
pub mod Lines
pub mod Sofar
