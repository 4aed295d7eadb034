mod ByStep
mod Counts
mod Held
pub mod Investees
pub mod Places
pub mod Spelled
mod Terms
pub mod Texts
