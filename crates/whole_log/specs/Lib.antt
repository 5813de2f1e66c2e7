pub mod Whole
pub use Rattle.paging.specs.channel_lines as channel_lines
pub use Rattle.finishing.specs as finishing
pub use Rattle.paging.specs as paging
pub use Rattle.paging.specs.serving as serving
pub use Rattle.paging.specs.taking as taking
