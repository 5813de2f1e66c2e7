pub mod Widening
pub use Rattle.machine_laws.specs.machine as machine
pub use Rattle.machine_laws.specs as machine_laws
