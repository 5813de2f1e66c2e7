-- The machine as it stood before request #101, frozen for the theorem on old logs, never edited. Assumes nothing.
pub mod Numbers
pub mod State
pub mod Maps
pub mod Choosing
pub mod Granting
pub mod Commands
pub mod Allocating
pub mod Settling
pub mod Sound
pub mod Kinds
pub mod Refusals
pub mod Call
pub mod Log
pub mod Machine
