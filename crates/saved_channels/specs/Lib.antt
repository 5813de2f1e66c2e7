pub use Rattle.frame_lines.specs as frame_lines
pub use Rattle.hex_lines.specs as hex_lines
pub use Rattle.frame_lines.specs.saved as saved
