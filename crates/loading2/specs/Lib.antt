pub mod Loading2
pub use Rattle.image.specs as image
pub use Rattle.loading.specs as loading
pub use Rattle.loading.specs.saving as saving
pub use Rattle.accepting2.specs.saving2 as saving2
pub use Rattle.loading.specs.waiting_list as waiting_list
