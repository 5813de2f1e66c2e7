pub mod ReadBack2
