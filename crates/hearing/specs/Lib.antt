pub mod Hearing
pub use Rattle.feeding.specs.unheard as unheard
