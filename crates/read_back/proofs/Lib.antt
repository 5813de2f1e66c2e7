pub mod Fits
pub mod Spelt
pub mod FrameBytes
pub mod OneFrame
pub mod ReadBack
pub mod WholeText
