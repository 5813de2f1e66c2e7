pub mod TableRest
pub use Rattle.placing.specs.entries as entries
pub use Rattle.placing.specs.open_shape as open_shape
pub use Rattle.placing.specs as placing
pub use Rattle.placing.specs.shapes as shapes
pub use Rattle.table.specs as table
