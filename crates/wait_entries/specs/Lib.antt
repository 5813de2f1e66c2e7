pub use Rattle.open_shape.specs as open_shape
