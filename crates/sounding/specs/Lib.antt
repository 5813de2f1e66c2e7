pub use Rattle.changing.specs as changing
pub use Rattle.changing.specs.freeing as freeing
