pub mod Boundary
pub use Rattle.bytes_call.specs as bytes_call
pub use Rattle.bytes_call.specs.desk_call as desk_call
pub use Rattle.bytes_call.specs.handed as handed
pub use Rattle.starting.specs.sizes as sizes
pub use Rattle.starting.specs as starting
