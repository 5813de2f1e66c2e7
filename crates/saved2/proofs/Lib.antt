pub mod Lengths2
pub mod Examples2
