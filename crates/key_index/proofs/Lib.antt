pub mod Firsts
pub mod Chains
pub mod Growing
