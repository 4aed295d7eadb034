pub mod Bills
pub mod Layout
pub mod Outcomes
