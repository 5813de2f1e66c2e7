pub mod Port
pub mod Witness
