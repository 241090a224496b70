-- Of two lists of rows at the start of a text, one begins with the other.
use Rattle.std.proofs.Common.{◌≡◌, ℕ, false, List, [], ◌∷◌, ◌++◌, append-nil, refl, sym, ◌∙◌, ap, subst}
use Rattle.dns_scan.specs.Token.{Token}
use Rattle.dns_text.specs.Tokens.{Row}
use Rattle.dns_text.specs.Rows.{BeginsWithRows, TokenRow, is_led}
use Rattle.dns_text.specs.Rows.BeginsWithRows.{none, more}
use Rattle.dns_text.proofs.OneRow.{one_row}

pub data Compared (rows others : List TokenRow) (rest rest' : List ℕ) : Type 0 where
  longer : (behind : List TokenRow) → rows ≡ others ++ behind → BeginsWithRows rest' behind rest → Compared rows others rest rest'
  shorter : (behind : List TokenRow) → others ≡ rows ++ behind → BeginsWithRows rest behind rest' → Compared rows others rest rest'

push : {row row' : TokenRow} {rows others : List TokenRow} {rest rest' : List ℕ} → row ≡ row' → Compared rows others rest rest'
    → Compared (row ∷ rows) (row' ∷ others) rest rest'
push same (longer behind is begins) = longer behind (λ i. same i ∷ is i) begins
push same (shorter behind is begins) = shorter behind (λ i. sym same i ∷ is i) begins

abbrev row_of : List ℕ → List Token → TokenRow
row_of text tokens = record { blank_led = is_led text; tokens = tokens }

pub compare : {text text' rest rest' : List ℕ} {rows others : List TokenRow} → text ≡ text' → BeginsWithRows text rows rest
    → BeginsWithRows text' others rest' → Compared rows others rest rest'
compare {rest' = rest'} {others = others} same none other =
    shorter others refl (subst (λ (t : List ℕ). BeginsWithRows t others rest') (sym same) other)
compare {rest = rest} {rows = rows} same (more first behind) none =
    longer rows refl (subst (λ (t : List ℕ). BeginsWithRows t rows rest) same (more first behind))
compare {text} {text'} same (more {tokens = tokens} first behind) (more {behind = after} {tokens = tokens'} first' behind') =
    let one = one_row first tokens' after (subst (λ (t : List ℕ). Row false t tokens' after) (sym same) first') in
    push {row = row_of text tokens} {row' = row_of text' tokens'} (λ i. row_of (same i) (one.0 i)) (compare one.1 behind behind')

-- there is no row here
abbrev pub Stops : List ℕ → Type 0
Stops rest = (tokens : List Token) (behind : List ℕ) → Row false rest tokens behind → ⊥

pub none_behind : {rest rest' : List ℕ} {behind : List TokenRow} → Stops rest → BeginsWithRows rest behind rest' → (behind ≡ []) × (rest ≡ rest')
none_behind stops none = (refl, refl)
none_behind stops (more first behind) = absurd (stops _ _ first)

-- all rows up to there
pub record AllRows (rows others : List TokenRow) (rest rest' : List ℕ) : Type 0 where
  pub behind : List TokenRow
  pub is : rows ≡ others ++ behind
  pub begins : BeginsWithRows rest' behind rest

all_compared : {rows others : List TokenRow} {rest rest' : List ℕ} → Stops rest → Compared rows others rest rest'
    → AllRows rows others rest rest'
all_compared stops (longer behind is begins) = record { behind = behind; is = is; begins = begins }
all_compared {rows} {others} {rest} stops (shorter behind is begins) =
    let here = none_behind stops begins in
    let same : others ≡ rows = is ∙ ap (λ (l : List TokenRow). rows ++ l) here.0 ∙ append-nil rows in
    record {
      behind = [];
      is = sym (append-nil others ∙ same);
      begins = subst (λ (t : List ℕ). BeginsWithRows t [] rest) here.1 none;
    }

pub all_rows : {text rest rest' : List ℕ} {rows others : List TokenRow} → BeginsWithRows text rows rest → Stops rest
    → BeginsWithRows text others rest' → AllRows rows others rest rest'
all_rows begins stops other = all_compared stops (compare refl begins other)
