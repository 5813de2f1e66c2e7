pub mod Port
pub use Rattle.sizes.specs as sizes
