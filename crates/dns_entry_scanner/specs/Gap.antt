-- The octets between the tokens of a row.
use Rattle.std.specs.Prelude.{◌+◌, ◌-◌, ℕ, List, [], ◌∷◌, length, min, take, drop, if◌then◌else◌}
use Rattle.dns_entry_scanner.specs.TokenSpan.{is_quoted, start_of, token_in}
use Rattle.dns_entry_scanner.specs.declared.token_span.TokenSpan.{TokenSpan}

-- the place at which a token begins, with its opening quote
abbrev pub first_of : TokenSpan → ℕ
first_of span = if is_quoted span then start_of span - 1 else start_of span

-- the place at which it ends in a text, with its closing quote
abbrev pub end_in : List ℕ → TokenSpan → ℕ
end_in text span = min (start_of span) (length text) + length (token_in text span).text + (if is_quoted span then 1 else 0)

-- the octets from a place of the text to the first of the tokens, or none without a token
abbrev pub gap_before : List ℕ → ℕ → List TokenSpan → List ℕ
gap_before text place [] = []
gap_before text place (span ∷ spans) = drop place (take (first_of span) text)

-- the place after the last of the tokens, with its closing quote, or the given place without a token
abbrev pub place_after : List ℕ → ℕ → List TokenSpan → ℕ
place_after text place [] = place
place_after text place (span ∷ spans) = place_after text (end_in text span) spans
