pub mod Serving
pub use Rattle.arbiter.specs as arbiter
pub use Rattle.arbiter.specs.decoding as decoding
pub use Rattle.unheard.specs.lines as lines
pub use Rattle.arbiter.specs.refusing as refusing
pub use Rattle.arbiter.specs.sound as sound
pub use Rattle.unheard.specs as unheard
