mod TriedService
mod ServiceParts
mod ServiceValues
mod ServicePieces
mod ServiceKeys
mod ServiceNumbers
mod ServiceLists
mod ServiceAddresses
mod ServiceShown
mod ServicePrinted
mod ServiceEncoded
mod ServiceItems
pub mod ServiceOrder
mod ServiceNames
mod ServiceMade
pub mod ServiceOne
mod ServiceListed
mod ServiceStrings
mod ServiceScans
mod ServiceInOrder
mod ServiceTexts
pub mod ServicePrintedBack
