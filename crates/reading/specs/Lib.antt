pub mod Reading
pub use Rattle.gathering.specs as gathering
pub use Rattle.hex_lines.specs as hex_lines
pub use Rattle.saved_frames.specs.sheet as sheet
