pub mod Handed
pub use Rattle.refusals.specs as refusals
