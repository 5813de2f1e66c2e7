pub mod DisplayLines
