pub mod Cases
pub mod Turns
pub mod Walks
