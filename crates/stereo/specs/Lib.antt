pub mod Stereo
