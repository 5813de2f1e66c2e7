pub mod Image
pub use Rattle.board.specs as board
pub use Rattle.board.specs.store as store
