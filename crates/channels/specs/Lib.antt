pub mod ChannelState
pub mod HeldBytes
pub mod OtherChannels
pub mod NextState
