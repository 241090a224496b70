pub mod Faults
pub mod Received
pub mod Texts
