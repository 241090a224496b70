pub mod Grows
pub mod Addresses
pub mod BothWays
pub mod Fronts
mod Patched
