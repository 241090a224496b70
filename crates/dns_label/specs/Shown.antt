-- How symbols are written, and which symbols octets are written as.
use Rattle.std.specs.Prelude.{◌≡◌, ◌==◌, ◌||◌, ℕ, false, List, ◌∷◌, encode_utf8, ⊤, if◌then◌else◌}
use Rattle.dns_label.specs.declared.symbol.Symbol.{Symbol}
use Rattle.dns_label.specs.declared.symbol.Symbol.TheVariants.{Char, SimpleEscape, DecimalEscape}
use Rattle.dns_label.specs.Symbol.{is_printable, three_digits}

-- the text of a symbol in UTF-8, which is `spelled` for a symbol that a text can have
abbrev pub shown : Symbol → List ℕ
shown (Char c) = encode_utf8 c
shown (SimpleEscape c) = 92 ∷ encode_utf8 c
shown (DecimalEscape n) = 92 ∷ three_digits n

-- an octet as itself, or as its number if it is not printable
abbrev pub bare_symbol : ℕ → Symbol
bare_symbol octet = if is_printable octet then Char octet else DecimalEscape octet

-- In a word a space, `"`, `(`, `)`, `;` and a backslash are escaped.
abbrev pub word_symbol : ℕ → Symbol
word_symbol octet =
    if (octet == 32) || ((octet == 34) || ((octet == 40) || ((octet == 41) || ((octet == 59) || (octet == 92)))))
    then SimpleEscape octet else bare_symbol octet

-- Between quotes `"` and a backslash are escaped.
abbrev pub quoted_symbol : ℕ → Symbol
quoted_symbol octet = if (octet == 34) || (octet == 92) then SimpleEscape octet else bare_symbol octet

-- In plain text a backslash is escaped.
abbrev pub plain_symbol : ℕ → Symbol
plain_symbol octet = if octet == 92 then SimpleEscape octet else bare_symbol octet

-- a word has white space, `"`, `(`, `)` and `;` only if they are escaped
abbrev pub IsWordSymbol : Symbol → Type 0
IsWordSymbol (Char c) =
    ((c == 32) || ((c == 9) || ((c == 13) || ((c == 10) || ((c == 34) || ((c == 40) || ((c == 41) || (c == 59)))))))) ≡ false
IsWordSymbol (SimpleEscape c) = ⊤
IsWordSymbol (DecimalEscape n) = ⊤
