pub mod Without
pub mod Stealing
pub mod Steps
