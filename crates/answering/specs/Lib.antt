pub mod Answers
pub mod Stops
