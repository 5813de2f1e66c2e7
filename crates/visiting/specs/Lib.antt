pub mod Visiting
pub use Rattle.choosing.specs as choosing
pub use Rattle.lanes.specs as lanes
pub use Rattle.one_request.specs.reply as reply
pub use Rattle.choosing.specs.standing as standing
pub use Rattle.one_request.specs.store as store
pub use Rattle.one_request.specs.waiting as waiting
