pub mod Witness
pub mod Lines
pub mod Inspected
