pub mod Fields
pub mod Numerals
pub mod Pieces
pub mod Places
pub mod Render
pub mod Writing
