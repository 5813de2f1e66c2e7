pub mod Examples
pub mod Program
pub mod Witness
