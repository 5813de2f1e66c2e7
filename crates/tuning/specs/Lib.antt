pub mod Tuning
pub use Rattle.retuning.specs.cycles as cycles
pub use Rattle.answers.specs.reply as reply
pub use Rattle.retuning.specs as retuning
pub use Rattle.answers.specs.store as store
pub use Rattle.numbers.specs.table as table
