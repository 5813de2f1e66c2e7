pub mod Beginning
pub use Rattle.carrying.specs.accepting as accepting
pub use Rattle.carrying.specs.finishing as finishing
pub use Rattle.carrying.specs.paging as paging
pub use Rattle.carrying.specs.saving2 as saving2
pub use Rattle.carrying.specs.taking as taking
pub use Rattle.carrying.specs.whole_log as whole_log
