pub mod Needed
pub mod Settles
pub mod NothingLeft
pub mod Reading
pub mod Witness
