pub use Rattle.saved_channels.specs.frame_lines as frame_lines
pub use Rattle.saved_channels.specs.saved as saved
