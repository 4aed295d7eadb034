pub mod Years
pub mod Places
pub mod Rows
pub mod RowsOn
pub mod View
pub mod Entries
pub mod Lending
