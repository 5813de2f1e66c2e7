pub mod ChannelNumbers
pub use Rattle.lanes.specs as lanes
pub use Rattle.store.specs as store
