-- A row's tokens, taken apart and put together field by field.
use Rattle.std.proofs.Common.{◌≡◌, ℕ, List, [], ◌∷◌, ◌++◌, drop, refl, sym, ◌∙◌, ap, subst, append_assoc, append-nil}
use Rattle.dns_scan.specs.Token.{Token, IsEnding, SameNames}
use Rattle.dns_fields.specs.Fields.{Kind, Number8, Number16, Number32, Ipv4, Ipv6, Compressible, Uncompressed, String, Strings, Tag, RestText, Rest16, Rest64}
use Rattle.dns_fields.specs.Fields.{Field, number8, number16, number32, ipv4, ipv6, compressible, uncompressed, string, strings, tag, rest_text, rest16, rest64, kind_of}
use Rattle.dns_fields.specs.Scanned.{ScansField, ScansRow, NoFieldScans, NoRowScans}

-- what is left after a field of the kind
abbrev pub left_behind : Kind → List Token → List Token
left_behind Number8 tokens = drop 1 tokens
left_behind Number16 tokens = drop 1 tokens
left_behind Number32 tokens = drop 1 tokens
left_behind Ipv4 tokens = drop 1 tokens
left_behind Ipv6 tokens = drop 1 tokens
left_behind Compressible tokens = drop 1 tokens
left_behind Uncompressed tokens = drop 1 tokens
left_behind String tokens = drop 1 tokens
left_behind Strings tokens = []
left_behind Tag tokens = drop 1 tokens
left_behind RestText tokens = drop 1 tokens
left_behind Rest16 tokens = []
left_behind Rest64 tokens = []

taken : {tokens left : List Token} {token : Token} → tokens ≡ token ∷ left → left ≡ drop 1 tokens
taken is = sym (ap (drop {A = Token} 1) is)

pub leaves : (names : List ℕ → List (List ℕ) → Type 0) (field : Field) (tokens left : List Token) → ScansField names field tokens left
    → left ≡ left_behind (kind_of field) tokens
leaves names (number8 n) tokens left scans = taken scans.takes.is
leaves names (number16 n) tokens left scans = taken scans.takes.is
leaves names (number32 n) tokens left scans = taken scans.takes.is
leaves names (ipv4 octets) tokens left scans = taken scans.1.is
leaves names (ipv6 octets) tokens left scans = taken scans.2.is
leaves names (compressible name) tokens left scans = taken scans.1
leaves names (uncompressed name) tokens left scans = taken scans.1
leaves names (string octets) tokens left scans = taken scans.is
leaves names (strings each) tokens left scans = scans.2
leaves names (tag octets) tokens left scans = taken scans.is
leaves names (rest_text octets) tokens left scans = taken scans.is
leaves names (rest16 octets) tokens left scans = scans.3
leaves names (rest64 octets) tokens left scans = scans.3

dropped : (tokens : List Token) → IsEnding (drop 1 tokens) tokens
dropped [] = record { taken = []; is = refl }
dropped (token ∷ tokens) = record { taken = token ∷ []; is = refl }

all_taken : (tokens : List Token) → IsEnding [] tokens
all_taken tokens = record { taken = tokens; is = sym (append-nil tokens) }

ends : (its : Kind) (tokens : List Token) → IsEnding (left_behind its tokens) tokens
ends Number8 tokens = dropped tokens
ends Number16 tokens = dropped tokens
ends Number32 tokens = dropped tokens
ends Ipv4 tokens = dropped tokens
ends Ipv6 tokens = dropped tokens
ends Compressible tokens = dropped tokens
ends Uncompressed tokens = dropped tokens
ends String tokens = dropped tokens
ends Strings tokens = all_taken tokens
ends Tag tokens = dropped tokens
ends RestText tokens = dropped tokens
ends Rest16 tokens = all_taken tokens
ends Rest64 tokens = all_taken tokens

-- the tokens left of those after a field are an ending of all
pub left_of_row : (names : List ℕ → List (List ℕ) → Type 0) (field : Field) (tokens behind left : List Token) → ScansField names field tokens behind
    → IsEnding left behind → IsEnding left tokens
left_of_row names field tokens behind left scans ending =
    let first = subst (λ (l : List Token). IsEnding l tokens) (sym (leaves names field tokens behind scans)) (ends (kind_of field) tokens) in
    record {
      taken = first.taken ++ ending.taken;
      is = first.is ∙ ap (λ l. first.taken ++ l) ending.is ∙ sym (append_assoc first.taken ending.taken left);
    }

-- and those left after a row
pub left_of_fields : (names : List ℕ → List (List ℕ) → Type 0) (row : List Field) (tokens left : List Token) → ScansRow names row tokens left
    → IsEnding left tokens
left_of_fields names [] tokens left scans = record { taken = []; is = sym scans }
left_of_fields names (field ∷ row) tokens left scans =
    left_of_row names field tokens scans.0 left scans.1 (left_of_fields names row scans.0 left scans.2)

-- what stands for a name at one place, if it stands for it at another
module _ (old new : List ℕ → List (List ℕ) → Type 0) (into : (text : List ℕ) (name : List (List ℕ)) → old text name → new text name) where
  field_there : (field : Field) (tokens left : List Token) → ScansField old field tokens left → ScansField new field tokens left
  field_there (number8 n) tokens left scans = scans
  field_there (number16 n) tokens left scans = scans
  field_there (number32 n) tokens left scans = scans
  field_there (ipv4 octets) tokens left scans = scans
  field_there (ipv6 octets) tokens left scans = scans
  field_there (compressible name) tokens left scans = (scans.0, scans.1, into scans.0 name scans.2)
  field_there (uncompressed name) tokens left scans = (scans.0, scans.1, into scans.0 name scans.2)
  field_there (string octets) tokens left scans = scans
  field_there (strings each) tokens left scans = scans
  field_there (tag octets) tokens left scans = scans
  field_there (rest_text octets) tokens left scans = scans
  field_there (rest16 octets) tokens left scans = scans
  field_there (rest64 octets) tokens left scans = scans

  row_there : (row : List Field) (tokens left : List Token) → ScansRow old row tokens left → ScansRow new row tokens left
  row_there [] tokens left scans = scans
  row_there (field ∷ row) tokens left scans = (scans.0, field_there field tokens scans.0 scans.1, row_there row scans.0 left scans.2)

-- a field, and a row after it where names are the same
pub row_scanned : (old new : List ℕ → List (List ℕ) → Type 0) → SameNames old new → (field : Field) (row : List Field) (tokens behind left : List Token)
    → ScansField old field tokens behind → ScansRow new row behind left → ScansRow old (field ∷ row) tokens left
row_scanned old new same field row tokens behind left first others =
    (behind, first, row_there new old (λ text name. (same text name).1) row behind left others)

pub no_first : (names : List ℕ → List (List ℕ) → Type 0) (its : Kind) (kinds : List Kind) (tokens : List Token) → NoFieldScans names its tokens
    → NoRowScans names (its ∷ kinds) tokens
no_first names its kinds tokens none [] left are scans = absurd (cc)
no_first names its kinds tokens none (field ∷ row) left are scans = none field scans.0 (cc) scans.1

pub no_others : (old new : List ℕ → List (List ℕ) → Type 0) → SameNames old new → (field : Field) (kinds : List Kind) (tokens behind : List Token)
    → ScansField old field tokens behind → NoRowScans new kinds behind → NoRowScans old (kind_of field ∷ kinds) tokens
no_others old new same field kinds tokens behind first none [] left are scans = absurd (cc)
no_others old new same field kinds tokens behind first none (other ∷ row) left are scans =
    let kind : kind_of other ≡ kind_of field = cc in
    let place : scans.0 ≡ behind =
    leaves old other tokens scans.0 scans.1 ∙ ap (λ (k : Kind). left_behind k tokens) kind ∙ sym (leaves old field tokens behind first) in
    none row left (cc)
    (subst (λ (l : List Token). ScansRow new row l left) place (row_there old new (λ text name. (same text name).0) row scans.0 left scans.2))
