pub use Rattle.store.specs as store
pub use Rattle.table.specs as table
