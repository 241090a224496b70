pub mod Mnemonic
pub mod Serial
