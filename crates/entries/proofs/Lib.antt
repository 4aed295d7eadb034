pub mod Means
mod Tables
