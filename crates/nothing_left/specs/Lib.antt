pub mod NothingLeft
pub mod Settles
