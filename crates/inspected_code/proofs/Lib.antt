pub mod Made
pub mod Examples
pub mod Runs
pub mod Inspected
pub mod Witness
