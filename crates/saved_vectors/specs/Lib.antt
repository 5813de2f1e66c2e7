pub mod SavedVectors
