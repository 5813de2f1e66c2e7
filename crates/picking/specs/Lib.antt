pub mod Picking
pub use Rattle.pricing.specs.channel as channel
pub use Rattle.pricing.specs.machine as machine
pub use Rattle.pricing.specs.standing as standing
