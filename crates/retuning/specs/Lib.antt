pub mod Retuning
pub use Rattle.cycles.specs as cycles
