pub use Rattle.sheet.specs as sheet
