mod Known
pub mod Outputs
mod Received
mod OneOutput
mod SpelledOctets
mod Passed
mod SpelledNumbers
mod SendableTexts
mod AskedNames
mod JobsPassed
mod Tried
