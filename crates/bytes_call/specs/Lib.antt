pub mod BytesCall
pub use Rattle.desk_call.specs.arbiter as arbiter
pub use Rattle.desk_call.specs as desk_call
pub use Rattle.handed.specs as handed
pub use Rattle.handed.specs.refusals as refusals
