pub mod Bills
pub mod Entries
pub mod Guides
pub mod Methods
pub mod Stops
