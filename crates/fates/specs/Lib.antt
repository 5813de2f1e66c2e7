pub mod Fates
pub use Rattle.store.specs.reply as reply
pub use Rattle.store.specs as store
