pub mod Progress
pub mod Whole
pub mod Runs
