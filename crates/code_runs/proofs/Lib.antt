pub mod Stored
pub mod CodeRuns
pub mod Made
pub mod Parts
pub mod Witness
pub mod Eight
