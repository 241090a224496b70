pub mod Asked
pub mod Receiving
pub mod FrameBuffer
pub mod Received
