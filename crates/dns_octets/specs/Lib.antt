pub mod Builder
pub mod Numbers
pub mod Parser
pub mod ErrorText
