pub mod Telling
pub use Rattle.admitting.specs as admitting
pub use Rattle.hearing.specs as hearing
pub use Rattle.admitting.specs.port as port
pub use Rattle.hearing.specs.unheard as unheard
