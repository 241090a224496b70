pub mod Steps
pub mod Stream
pub mod Fault
pub mod Output
pub mod Program
pub mod Passed
