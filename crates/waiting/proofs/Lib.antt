pub mod Waiting
pub mod Finding
