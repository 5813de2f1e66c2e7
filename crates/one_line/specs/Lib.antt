pub mod OneLine
pub use Rattle.putting.specs.channel_lines as channel_lines
pub use Rattle.putting.specs.display_lines as display_lines
pub use Rattle.putting.specs.gathering as gathering
pub use Rattle.putting.specs as putting
pub use Rattle.putting.specs.serving as serving
pub use Rattle.putting.specs.taking as taking
