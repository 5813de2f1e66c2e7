pub mod Saving2
pub use Rattle.accepting.specs as accepting
pub use Rattle.recounting.specs as recounting
pub use Rattle.accepting.specs.saving as saving
pub use Rattle.accepting.specs.sound as sound
