pub mod Bottoms
pub mod Layers
pub mod Layout
pub mod Limits
pub mod Readings
pub mod Within
pub mod Worked
