pub mod FurtherData
pub mod Built
pub mod Shown
pub mod Folded
