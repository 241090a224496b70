pub mod OneSuffix
