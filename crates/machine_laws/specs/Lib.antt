pub mod Owed
pub mod Sweeps
pub mod Lists
pub mod Maps
pub mod Board
pub mod Choosing
pub mod Settling
pub mod Looking
pub mod Allocating
pub mod Sound
pub mod Keeping
pub mod Cutting
pub mod Fronts
pub mod Refusals
pub mod Replies
pub mod Rooms
pub use Rattle.machine.specs as machine
