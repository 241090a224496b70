-- How unknown data is printed (RFC 3597 5).
use Rattle.std.specs.Prelude.{◌/◌, ◌%◌, ℕ, true, List, [], ◌∷◌, length}
use Rattle.std.specs.List.{flat_map, join_with_byte}
use Rattle.std.specs.Fmt.{decimal, digit_glyph}

-- two digits for each octet, in capitals
abbrev pub hex_of : List ℕ → List ℕ
hex_of octets = flat_map (λ octet. digit_glyph true (octet / 16) ∷ digit_glyph true (octet % 16) ∷ []) octets

-- one word in base 16, if there are any octets
abbrev pub hex_words : List ℕ → List (List ℕ)
hex_words [] = []
hex_words (octet ∷ octets) = hex_of (octet ∷ octets) ∷ []

-- the words: `\#`, the number of octets, and these
abbrev pub unknown_words : List ℕ → List (List ℕ)
unknown_words octets = (92 ∷ 35 ∷ []) ∷ decimal (length octets) ∷ hex_words octets

-- the text: a space between any two words
abbrev pub unknown_text : List ℕ → List ℕ
unknown_text octets = join_with_byte 32 (unknown_words octets)
