-- The text of data at one place of a scanner, and at another one where the same names are spelled.
use Rattle.std.proofs.Common.{◌≡◌, ℕ, Bool, false, List, [], ◌∷◌, Result, Ok, Err, IfOk, IfErr, OnErr, drop, refl, sym, ◌∙◌, ap, subst}
use Rattle.std.specs.Bool.{IsTrue}
use Rattle.dns_text.specs.Token.{Token, IsEnding, SameNames, marker}
use Rattle.dns_text.specs.UnknownData.{IsUnknownData}
use Rattle.dns_fields.specs.Fields.{Field, number8, number16, number32, ipv4, ipv6, compressible, uncompressed, string, strings, tag, rest_text, rest16, rest64}
use Rattle.dns_fields.specs.Scanned.{ScansField, ScansRow, ScansData, ScansLong, NoDataScans}
use Rattle.dns_rdata.specs.Data.{Data, typed, unknown_data, IsUnmarked, NoAnyDataScans, ScansAnyData}

pub is_false : {b : Bool} → b ≡ false → IsTrue b → ⊥
is_false is has = cc

behind : {tokens words : List Token} → marker ∷ tokens ≡ marker ∷ words → words ≡ tokens
behind is = sym (ap (drop {A = Token} 1) is)

-- unknown data after the marker is the only text of data there
pub none_unknown : (names : List ℕ → List (List ℕ) → Type 0) (rtype : ℕ) (tokens : List Token)
    → ((octets : List ℕ) → IsUnknownData tokens octets → ⊥)
    → (rdata : Data) (left : List Token) → ScansAnyData names rtype rdata (marker ∷ tokens) left → ⊥
none_unknown names rtype tokens none (typed number row) left scans = scans.0 tokens refl
none_unknown names rtype tokens none (unknown_data unknown) left scans =
    none unknown.octets (subst (λ words. IsUnknownData words unknown.octets) (behind scans.2) scans.3)

-- where nothing marks unknown data, data is of the type's fields
pub none_typed : (names : List ℕ → List (List ℕ) → Type 0) (rtype n : ℕ) (tokens : List Token) → rtype ≡ n → IsUnmarked tokens
    → NoDataScans names n tokens → NoAnyDataScans names rtype tokens
none_typed names rtype n tokens is unmarked none fits (typed number row) left scans =
    none (λ long. fits unmarked (subst (λ n. ScansLong names n tokens) (sym is) long)) row left (subst (λ n. ScansData names n row tokens left) is scans.2)
none_typed names rtype n tokens is unmarked none fits (unknown_data unknown) left scans = unmarked scans.1 scans.2

pub same_back : (old new : List ℕ → List (List ℕ) → Type 0) → SameNames old new → SameNames new old
same_back old new same text name = ((same text name).1, (same text name).0)

field_same : (old new : List ℕ → List (List ℕ) → Type 0) → SameNames old new → (field : Field) (tokens left : List Token)
    → ScansField old field tokens left → ScansField new field tokens left
field_same old new same (number8 n) tokens left scans = scans
field_same old new same (number16 n) tokens left scans = scans
field_same old new same (number32 n) tokens left scans = scans
field_same old new same (ipv4 octets) tokens left scans = scans
field_same old new same (ipv6 octets) tokens left scans = scans
field_same old new same (compressible name) tokens left scans = (scans.0, scans.1, (same scans.0 name).0 scans.2)
field_same old new same (uncompressed name) tokens left scans = (scans.0, scans.1, (same scans.0 name).0 scans.2)
field_same old new same (string octets) tokens left scans = scans
field_same old new same (strings each) tokens left scans = scans
field_same old new same (tag octets) tokens left scans = scans
field_same old new same (rest_text octets) tokens left scans = scans
field_same old new same (rest16 octets) tokens left scans = scans
field_same old new same (rest64 octets) tokens left scans = scans

row_same : (old new : List ℕ → List (List ℕ) → Type 0) → SameNames old new → (row : List Field) (tokens left : List Token)
    → ScansRow old row tokens left → ScansRow new row tokens left
row_same old new same [] tokens left scans = scans
row_same old new same (field ∷ row) tokens left scans =
    (scans.0, field_same old new same field tokens scans.0 scans.1, row_same old new same row scans.0 left scans.2)

data_same : (old new : List ℕ → List (List ℕ) → Type 0) → SameNames old new → (rtype : ℕ) (rdata : Data) (tokens left : List Token)
    → ScansAnyData old rtype rdata tokens left → ScansAnyData new rtype rdata tokens left
data_same old new same rtype (typed number row) tokens left scans =
    (scans.0, scans.1, record { kinds = scans.2.kinds; scanned = row_same old new same row tokens left scans.2.scanned; short = scans.2.short })
data_same old new same rtype (unknown_data unknown) tokens left scans = scans

-- the same data, where the tokens and what names are spelled are the same
pub text_same : (old new : List ℕ → List (List ℕ) → Type 0) → SameNames old new → (rtype : ℕ) (before after : List Token) → before ≡ after
    → (rdata : Data) (left : List Token) → ScansAnyData old rtype rdata before left → ScansAnyData new rtype rdata after left
text_same old new same rtype before after is rdata left scans =
    data_same old new same rtype rdata after left (subst (λ tokens. ScansAnyData old rtype rdata tokens left) is scans)

pub ok_same : {T E : Type 0} (result : Result T E) (view : T → Data) (old new : List ℕ → List (List ℕ) → Type 0) → SameNames old new
    → (rtype : ℕ) (before after left : List Token) → before ≡ after
    → IfOk result (λ rdata. ScansAnyData old rtype (view rdata) before left)
    → IfOk result (λ rdata. ScansAnyData new rtype (view rdata) after left)
ok_same (Ok rdata) view old new same rtype before after left is scans =
    text_same old new same rtype before after is (view rdata) left scans
ok_same (Err error) view old new same rtype before after left is scans = tt

long_same : (old new : List ℕ → List (List ℕ) → Type 0) → SameNames old new → (rtype : ℕ) (tokens : List Token)
    → ScansLong old rtype tokens → ScansLong new rtype tokens
long_same old new same rtype tokens scans = record {
  row = scans.row;
  left = scans.left;
  kinds = scans.kinds;
  scanned = row_same old new same scans.row tokens scans.left scans.scanned;
  long = scans.long;
}

pub err_same : {T E : Type 0} (result : Result T E) (Other : E → Type 0) (old new : List ℕ → List (List ℕ) → Type 0) → SameNames old new
    → (rtype : ℕ) (before after : List Token) → before ≡ after → IfErr result (λ error. Other error → NoAnyDataScans new rtype after)
    → IfErr result (λ error. Other error → NoAnyDataScans old rtype before)
err_same (Ok rdata) Other old new same rtype before after is none = tt
err_same (Err error) Other old new same rtype before after is none =
    λ other fits rdata left scans.
    none other
    (λ unmarked long. fits (λ words marked. unmarked words (sym is ∙ marked))
    (long_same new old (same_back old new same) rtype before (subst (λ tokens. ScansLong new rtype tokens) (sym is) long)))
    rdata left (text_same old new same rtype before after is rdata left scans)

-- the same, where the tokens begin with no fields of the type and nothing marks unknown data
pub typed_err_same : {T E : Type 0} (result : Result T E) (Other : E → Type 0) (old new : List ℕ → List (List ℕ) → Type 0) → SameNames old new
    → (rtype : ℕ) (before after : List Token) → before ≡ after → IsUnmarked before → IfErr result (λ error. Other error → NoDataScans new rtype after)
    → IfErr result (λ error. Other error → NoAnyDataScans old rtype before)
typed_err_same {T} (Ok rdata) Other old new same rtype before after is unmarked none = tt
typed_err_same {T} (Err error) Other old new same rtype before after is unmarked none =
    err_same {T = T} (Err error) Other old new same rtype before after is
    (λ other. none_typed new rtype rtype after refl (λ words marked. unmarked words (is ∙ marked)) (none other))

pub left_behind_marker : {T E : Type 0} (result : Result T E) (before tokens left : List Token) → before ≡ marker ∷ tokens
    → OnErr result (IsEnding left tokens) → OnErr result (IsEnding left before)
left_behind_marker (Ok rdata) before tokens left is ending = tt
left_behind_marker (Err error) before tokens left is ending =
    record { taken = marker ∷ ending.taken; is = is ∙ ap (λ others. marker ∷ others) ending.is }
