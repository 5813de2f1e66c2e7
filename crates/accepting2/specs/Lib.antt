pub mod Accepting2
pub use Rattle.saving2.specs.accepting as accepting
pub use Rattle.read_back2.specs.hex_lines as hex_lines
pub use Rattle.read_back2.specs.number_lines as number_lines
pub use Rattle.read_back2.specs.read_back as read_back
pub use Rattle.read_back2.specs as read_back2
pub use Rattle.saving2.specs.recounting as recounting
pub use Rattle.read_back2.specs.saved as saved
pub use Rattle.read_back2.specs.saved2 as saved2
pub use Rattle.saving2.specs as saving2
