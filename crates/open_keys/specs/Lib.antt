pub mod OpenKeys
pub use Rattle.machine.specs as machine
pub use Rattle.queue.specs as queue
