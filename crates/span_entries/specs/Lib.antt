pub use Rattle.entries.specs as entries
pub use Rattle.shapes.specs as shapes
pub use Rattle.store.specs as store
