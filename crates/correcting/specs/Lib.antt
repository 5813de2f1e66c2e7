pub use Rattle.channel_numbers.specs as channel_numbers
pub use Rattle.channel_numbers.specs.lanes as lanes
