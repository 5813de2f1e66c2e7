pub mod PortRuns
pub mod Witness
