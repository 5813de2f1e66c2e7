pub mod Admitting
pub use Rattle.port.specs as port
pub use Rattle.port.specs.sizes as sizes
