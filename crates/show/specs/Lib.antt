pub use Rattle.answers.specs as answers
