pub mod Carrying
pub use Rattle.accepting2.specs.accepting as accepting
pub use Rattle.board.specs as board
pub use Rattle.whole_log.specs.finishing as finishing
pub use Rattle.whole_log.specs.paging as paging
pub use Rattle.accepting2.specs.saving2 as saving2
pub use Rattle.board.specs.store as store
pub use Rattle.whole_log.specs.taking as taking
pub use Rattle.whole_log.specs as whole_log
