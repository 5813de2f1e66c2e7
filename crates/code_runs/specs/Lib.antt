pub mod CodeRuns
pub mod Stored
pub mod Made
pub use Rattle.arbiter.specs as arbiter
pub use Rattle.arbiter.specs.refusals as refusals
