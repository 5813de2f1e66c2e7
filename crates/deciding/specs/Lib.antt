pub mod Deciding
pub use Rattle.settling.specs.lanes as lanes
pub use Rattle.operations.specs.refusals as refusals
pub use Rattle.refusing.specs as refusing
pub use Rattle.operations.specs.steps as steps
