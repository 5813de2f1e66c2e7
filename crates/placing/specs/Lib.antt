pub mod Placing
pub use Rattle.span_entries.specs.entries as entries
pub use Rattle.wait_entries.specs.open_shape as open_shape
pub use Rattle.span_entries.specs.shapes as shapes
pub use Rattle.span_entries.specs.store as store
