pub mod NumberLines
pub use Rattle.frame_lines.specs as frame_lines
pub use Rattle.hex_lines.specs as hex_lines
pub use Rattle.saved2.specs.saved as saved
pub use Rattle.saved2.specs as saved2
