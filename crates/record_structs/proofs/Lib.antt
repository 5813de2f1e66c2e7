pub mod Stores
pub mod Laws
pub mod Listed
