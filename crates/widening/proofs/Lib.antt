pub mod Maps
pub mod Choosing
pub mod Keys
pub mod Settling
pub mod Commands
pub mod Sound
pub mod Calls
