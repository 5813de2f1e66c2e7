pub mod Board
pub use Rattle.channel.specs as channel
pub use Rattle.answers.specs.store as store
