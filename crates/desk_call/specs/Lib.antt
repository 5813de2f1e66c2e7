pub mod DeskCall
pub use Rattle.arbiter.specs as arbiter
