pub mod Fault
pub mod FaultText
pub mod Answer
pub mod Given
pub mod Calls
