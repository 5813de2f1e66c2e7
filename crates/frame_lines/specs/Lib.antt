pub mod FrameLines
pub use Rattle.saved.specs as saved
pub use Rattle.waiting.specs as waiting
