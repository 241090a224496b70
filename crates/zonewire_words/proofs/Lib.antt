mod Uses
mod Rows
mod Named
mod Numbers
mod Texts
mod TriedWords
