pub mod Slow
pub use Rattle.fragments.specs.hearing as hearing
pub use Rattle.fragments.specs.port as port
pub use Rattle.boundary.specs.sizes as sizes
pub use Rattle.boundary.specs.starting as starting
pub use Rattle.whole_log.specs as whole_log
