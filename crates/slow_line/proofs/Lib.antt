pub mod Whole
pub mod Log
pub mod Runs
