pub mod Slipped
pub mod Needed
pub use Rattle.nothing_left.specs as nothing_left
