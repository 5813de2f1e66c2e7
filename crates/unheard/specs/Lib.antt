pub mod Unheard
pub use Rattle.frames.specs as frames
pub use Rattle.lines.specs as lines
