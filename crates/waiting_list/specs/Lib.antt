pub mod WaitingList
pub use Rattle.decoding.specs as decoding
pub use Rattle.records.specs as records
pub use Rattle.sizes.specs as sizes
pub use Rattle.sound.specs as sound
