pub mod ReadBack
pub use Rattle.reading.specs.hex_lines as hex_lines
pub use Rattle.reading.specs as reading
pub use Rattle.saved.specs as saved
pub use Rattle.reading.specs.sheet as sheet
