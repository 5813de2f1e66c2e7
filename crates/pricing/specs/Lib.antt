pub mod Pricing
pub use Rattle.channel.specs as channel
pub use Rattle.machine.specs as machine
pub use Rattle.channel.specs.machine_laws as machine_laws
pub use Rattle.standing.specs as standing
