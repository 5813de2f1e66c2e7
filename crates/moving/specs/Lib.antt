pub mod Moving
pub use Rattle.loading.specs.saving as saving
pub use Rattle.accepting2.specs.saving2 as saving2
