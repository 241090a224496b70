pub mod Sent
pub mod Sending
pub mod Spelled
pub mod SpelledSent
pub mod SpelledSending
pub mod SentBy
pub mod Best
