pub mod Keeping
pub use Rattle.saving.specs.decoding as decoding
pub use Rattle.saving.specs as saving
