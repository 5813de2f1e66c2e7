pub mod Spelling
pub use Rattle.machine.specs as machine
pub use Rattle.memory.specs as memory
