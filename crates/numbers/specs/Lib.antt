pub mod Numbers
pub use Rattle.table.specs as table
