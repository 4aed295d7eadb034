pub mod NumberLines
pub mod Numbers
pub mod Places
pub mod Printed
pub mod Rows
pub mod Splits
pub mod Writes
