pub mod ReadBack2
pub use Rattle.read_back.specs.hex_lines as hex_lines
pub use Rattle.number_lines.specs as number_lines
pub use Rattle.read_back.specs as read_back
pub use Rattle.read_back.specs.reading as reading
pub use Rattle.read_back.specs.saved as saved
pub use Rattle.number_lines.specs.saved2 as saved2
pub use Rattle.read_back.specs.sheet as sheet
