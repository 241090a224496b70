pub mod Cutting
pub mod Query
pub mod Asked
pub mod Frames
pub mod Transfer
