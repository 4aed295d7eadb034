pub mod Items
pub mod Tables
