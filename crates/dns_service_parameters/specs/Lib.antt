pub mod Service
pub mod ServiceText
pub mod ServiceParts
pub mod ServiceShown
pub mod ServiceRead
