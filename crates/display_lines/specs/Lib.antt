pub mod DisplayLines
pub use Rattle.record_structs.specs.decoding as decoding
pub use Rattle.record_structs.specs as record_structs
pub use Rattle.record_structs.specs.waiting_list as waiting_list
