pub mod RecordStructs
pub use Rattle.waiting_list.specs.decoding as decoding
pub use Rattle.waiting_list.specs as waiting_list
