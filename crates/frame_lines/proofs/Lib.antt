pub mod FrameLines
pub mod FramesIn
