pub mod Accepting2
