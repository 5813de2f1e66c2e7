pub mod Heads
pub use Rattle.lent.specs as lent
