pub mod Saved2
pub use Rattle.saved.specs as saved
