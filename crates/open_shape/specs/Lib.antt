pub mod OpenShape
