pub mod Leaving
pub use Rattle.granting.specs as granting
