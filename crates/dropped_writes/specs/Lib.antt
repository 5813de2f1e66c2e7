pub mod DroppedWrites
pub use Rattle.locks.specs as locks
