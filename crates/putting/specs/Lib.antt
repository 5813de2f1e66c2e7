pub mod Putting
pub use Rattle.taking.specs.channel_lines as channel_lines
pub use Rattle.display_lines.specs as display_lines
pub use Rattle.gathering.specs as gathering
pub use Rattle.taking.specs.serving as serving
pub use Rattle.taking.specs as taking
