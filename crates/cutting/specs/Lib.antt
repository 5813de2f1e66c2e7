pub mod Cutting
pub use Rattle.fronts.specs as fronts
pub use Rattle.sweep.specs.granting as granting
