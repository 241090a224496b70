-- What converters make of symbols.
use Rattle.std.specs.Prelude.{◌≡◌, [], ℕ, List, map, Option, Some, None}
use Rattle.dns_label.specs.declared.symbol.Symbol.{Symbol}
use Rattle.dns_label.specs.declared.symbol.Symbol.TheVariants.{Char}
use Rattle.dns_scan.specs.declared.encoding.base.Base.{Base}
use Rattle.dns_scan.specs.declared.symbols.entry_symbol.EntrySymbol.{EntrySymbol}
use Rattle.dns_scan.specs.Base.{Decodes}
use Rattle.dns_scan.specs.Decoding.{Held, HasRead, progress_of}
use Rattle.dns_scan.specs.Symbols.{HasSymbols, symbols_in}
use Rattle.dns_scan.specs.Token.{Token}

-- the octets that a call returned, if any
abbrev pub octets_given : {O : Type 0} → (O → List ℕ) → Option O → List ℕ
octets_given list None = []
octets_given list (Some octets) = list octets

-- the token's symbols are converted to these octets
pub record IsConverted (converts : List Symbol → List ℕ → Type 0) (octets : List ℕ) (token : Token) : Type 0 where
  pub symbols : List Symbol
  pub has : HasSymbols symbols token
  pub converted : converts symbols octets

-- The symbols are plain characters, whose text is one of the octets. No text of an encoding has an escaped character.
pub record Deciphers (base : Base) (symbols : List Symbol) (octets : List ℕ) : Type 0 where
  pub text : List ℕ
  pub plain : symbols ≡ map Char text
  pub decodes : Decodes base text octets

-- a converter was passed these symbols and has returned these octets
pub record HasDeciphered (base : Base) (held : Held) (symbols : List Symbol) (given : List ℕ) : Type 0 where
  pub text : List ℕ
  pub plain : symbols ≡ map Char text
  pub read : HasRead base (progress_of given held) text

-- the same over an entry's symbols

abbrev pub DeciphersEntry : Base → List EntrySymbol → List ℕ → Type 0
DeciphersEntry base symbols octets = Deciphers base (symbols_in symbols) octets

abbrev pub HasDecipheredEntry : Base → Held → List EntrySymbol → List ℕ → Type 0
HasDecipheredEntry base held symbols given = HasDeciphered base held (symbols_in symbols) given
