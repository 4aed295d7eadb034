pub mod ByAssets
pub mod Nobody
pub mod FromDays
pub mod Stricter
