pub mod Paging
pub use Rattle.one_line.specs.channel_lines as channel_lines
pub use Rattle.one_line.specs.display_lines as display_lines
pub use Rattle.one_line.specs.serving as serving
pub use Rattle.one_line.specs.taking as taking
