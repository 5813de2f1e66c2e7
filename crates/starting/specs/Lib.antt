pub mod Starting
pub use Rattle.sizes.specs as sizes
