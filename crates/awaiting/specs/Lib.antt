pub mod Awaiting
pub use Rattle.play.specs as play
