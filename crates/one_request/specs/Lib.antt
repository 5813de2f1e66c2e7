pub mod OneRequest
pub use Rattle.locks.specs.reply as reply
pub use Rattle.locks.specs.store as store
pub use Rattle.locks.specs.table as table
pub use Rattle.waiting.specs as waiting
