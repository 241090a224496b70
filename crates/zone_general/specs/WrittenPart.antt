-- A token of a row that is rewritten. Only contracts inside the crate name it.
use Rattle.std.specs.Prelude.{◌≡◌, ◌+◌, ◌==◌, ℕ, zero, suc, Bool, List, [], ◌∷◌, ◌++◌, Some, nat_lt, if◌then◌else◌}
use Rattle.dns_scan.specs.Token.{Token}
use Rattle.dns_text.specs.Tokens.{Next}
use Rattle.dns_entry_scanner.specs.Gap.{end_in}
use Rattle.dns_entry_scanner.specs.declared.token_span.TokenSpan.{TokenSpan}
use Rattle.zone_general.specs.Parts.{token_octets}
use Rattle.zone_general.specs.Rewritten.{kept, spaced}

-- the next token is after this gap
pub record GoesOver (inside : Bool) (left gap : List ℕ) (out : Bool) (rest : List ℕ) : Type 0 where
  pub token : Token
  pub next : Next inside left (Some token) out rest
  pub whole : left ≡ gap ++ (token_octets token ++ rest)

-- the place behind the tokens before the index, or that at which the row begins
abbrev pub place_at : List ℕ → ℕ → List TokenSpan → ℕ → ℕ
place_at text place spans zero = place
place_at text place [] (suc index) = place
place_at text place (span ∷ spans) (suc index) = place_at text (end_in text span) spans index

-- What is written for the token at the index of a row whose type is at a place, and for the gap before it: the same before the type;
-- the word; the text for the first token of data; and for the others what stays of the gap.
abbrev pub written_part : ℕ → ℕ → List ℕ → List ℕ → List ℕ → List ℕ → List ℕ
written_part index place word text gap token =
    if nat_lt index place then gap ++ token
    else (if index == place then gap ++ word else (if index == place + 1 then spaced gap ++ text else kept gap))

-- what is written for data without tokens
abbrev pub written_none : ℕ → ℕ → List ℕ → List ℕ
written_none count place text = if count == place + 1 then 32 ∷ text else []
