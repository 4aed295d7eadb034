pub mod Accepted
pub mod Causes
