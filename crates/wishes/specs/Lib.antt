pub mod Wishes
pub use Rattle.board.specs as board
