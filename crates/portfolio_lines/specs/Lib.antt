pub mod Counted
pub mod Lines
pub mod Methods
pub mod Misreads
pub mod Numbers
pub mod Places
pub mod Rows
pub mod Text
