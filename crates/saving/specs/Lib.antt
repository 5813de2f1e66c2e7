pub mod Saving
pub use Rattle.waiting_list.specs.decoding as decoding
pub use Rattle.saved_lines.specs as saved_lines
pub use Rattle.waiting_list.specs.sizes as sizes
pub use Rattle.waiting_list.specs.sound as sound
pub use Rattle.waiting_list.specs as waiting_list
