pub mod Turns
pub mod Dropping
