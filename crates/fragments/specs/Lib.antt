pub mod Fragments
pub use Rattle.telling.specs.admitting as admitting
pub use Rattle.telling.specs.hearing as hearing
pub use Rattle.telling.specs.port as port
pub use Rattle.telling.specs as telling
pub use Rattle.telling.specs.unheard as unheard
