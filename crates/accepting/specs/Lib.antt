pub mod Accepting
pub use Rattle.saving.specs.decoding as decoding
pub use Rattle.read_back.specs.saved as saved
pub use Rattle.saving.specs.saved_lines as saved_lines
pub use Rattle.saving.specs as saving
pub use Rattle.saving.specs.sizes as sizes
pub use Rattle.saving.specs.sound as sound
pub use Rattle.saving.specs.waiting_list as waiting_list
