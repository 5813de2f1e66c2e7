pub mod Laws
pub mod ThereAndBack
