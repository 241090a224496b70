pub mod Forms
pub mod Values
pub mod Rows
pub mod Text
pub mod Printed
