pub mod Counting
pub mod Differences
pub mod Framed
pub mod RecordWriter
pub mod Selected
pub mod Sorted
pub mod Statistics
