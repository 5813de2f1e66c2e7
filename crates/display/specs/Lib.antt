pub mod Looks
pub mod Display
pub mod Runs
pub mod Pinned
pub mod Standing
pub use Rattle.widening.specs.machine_laws as machine_laws
