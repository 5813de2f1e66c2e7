pub mod Version
pub use Rattle.boundary.specs as boundary
pub use Rattle.fragments.specs as fragments
pub use Rattle.boundary.specs.handed as handed
pub use Rattle.loading2.specs.image as image
pub use Rattle.last_line.specs as last_line
pub use Rattle.loading2.specs.loading as loading
pub use Rattle.loading2.specs as loading2
pub use Rattle.moving.specs as moving
pub use Rattle.loading2.specs.saving as saving
pub use Rattle.loading2.specs.saving2 as saving2
pub use Rattle.boundary.specs.sizes as sizes
pub use Rattle.boundary.specs.starting as starting
pub use Rattle.stereo.specs as stereo
pub use Rattle.loading2.specs.waiting_list as waiting_list
