pub mod Page
pub mod Placed
