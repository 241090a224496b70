pub mod Alike
pub mod Cost
pub mod CostSum
pub mod Free
pub mod Joined
pub mod Groups
