pub mod Lines
pub use Rattle.slipped.specs.nothing_left as nothing_left
pub use Rattle.slipped.specs as slipped
