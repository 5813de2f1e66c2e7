pub mod Loading
pub use Rattle.accepting.specs as accepting
pub use Rattle.encoding.specs as encoding
pub use Rattle.recounting.specs as recounting
pub use Rattle.accepting.specs.saved as saved
pub use Rattle.accepting.specs.saving as saving
pub use Rattle.accepting.specs.sound as sound
pub use Rattle.accepting.specs.waiting_list as waiting_list
