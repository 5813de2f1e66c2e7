pub use Rattle.channel_frames.specs.sheet as sheet
pub use Rattle.span_frames.specs.store as store
