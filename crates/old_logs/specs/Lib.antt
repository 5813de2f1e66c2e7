pub mod Old
pub mod Now
pub mod OldLogs
pub mod Both
