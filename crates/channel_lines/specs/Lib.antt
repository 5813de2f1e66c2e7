pub mod ChannelLines
