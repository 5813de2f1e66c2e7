pub mod NumberLines
