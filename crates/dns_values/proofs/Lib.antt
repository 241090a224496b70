pub mod Words
pub mod ReadsBack
pub mod Serials
