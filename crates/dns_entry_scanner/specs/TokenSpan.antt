-- The places of tokens in a text, and the tokens there.
use Rattle.std.specs.Prelude.{◌≡◌, ◌==◌, ℕ, Bool, true, false, List, Option, take, drop}
use Rattle.std.specs.List.{list_all, list_any}
use Rattle.dns_label.specs.Symbol.{is_plain}
use Rattle.dns_scan.specs.Token.{Token}
use Rattle.dns_text.specs.Tokens.{Next}
use Rattle.dns_entry_scanner.specs.declared.token_span.TokenSpan.{TokenSpan}

abbrev pub start_of : TokenSpan → ℕ
start_of span = span.start

abbrev pub len_of : TokenSpan → ℕ
len_of span = span.len

abbrev pub is_quoted : TokenSpan → Bool
is_quoted span = span.quoted

-- whether the span says that its token has a backslash
abbrev pub is_marked : TokenSpan → Bool
is_marked span = span.has_escape

-- the token at the span's place in a text
abbrev pub token_in : List ℕ → TokenSpan → Token
token_in text span = record { quoted = span.quoted; text = take span.len (drop span.start text) }

-- whether there is a backslash (92) in the octets
abbrev pub has_backslash : List ℕ → Bool
has_backslash octets = list_any (λ octet. octet == 92) octets

-- what the span says of backslashes is true of the text
abbrev pub IsMarked : List ℕ → TokenSpan → Type 0
IsMarked text span = is_marked span ≡ has_backslash (token_in text span).text

-- if it says that there is none, each octet of the token is a printable character that stands for itself
abbrev pub IsPlainUnmarked : List ℕ → TokenSpan → Type 0
IsPlainUnmarked text span = is_marked span ≡ false → list_all is_plain (token_in text span).text ≡ true

-- neither a token nor the end of the row follows from there
abbrev pub NoNext : Bool → List ℕ → Type 0
NoNext inside text = (found : Option Token) (out : Bool) (rest : List ℕ) → Next inside text found out rest → ⊥
