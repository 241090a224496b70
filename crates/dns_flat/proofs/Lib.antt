pub mod Front
mod Refusals
mod BuiltNames
mod PushNames
mod Reverses
mod NoNames
pub mod Suffixes
pub mod Standing
pub mod RelativeForms
pub mod PartForms
pub mod NameParts
mod FirstNames
mod Putting
pub mod Chains
pub mod Constants
pub mod PrintedNames
mod RelativeTexts
mod RelativeRefusals
mod SpelledTexts
pub mod Decimals
mod PlainNames
