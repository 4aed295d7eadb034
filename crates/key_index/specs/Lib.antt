pub mod Places
pub mod Keys
pub mod Buckets
pub mod Chains
