pub mod Ending
pub use Rattle.play.specs as play
