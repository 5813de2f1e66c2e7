pub mod Changing
pub use Rattle.freeing.specs as freeing
