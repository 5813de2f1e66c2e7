pub mod Needed
pub mod Inserting
pub mod Slipped
pub mod Witness
