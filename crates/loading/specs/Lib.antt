pub mod Entering
pub mod Loading
pub mod Trying
