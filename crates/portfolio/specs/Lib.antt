pub mod Cursors
pub mod Files
pub mod Layout
pub mod Refused
pub mod Rows
pub mod Seen
pub mod Text
pub mod Worked
