-- Data of the records of a zone: a row of fields, or opaque octets (RFC 3597).
use Rattle.std.specs.Prelude.{◌≡◌, ℕ, Bool, true, false, List, [], ◌∷◌, ◌++◌, Option, None, length, nat_eq, ⊤}
use Rattle.std.proofs.Math.Bool.{beq}
use Rattle.std.specs.Hash as fed
use Rattle.std.specs.Ordering.{on, eq_of_both, then_cmp, nat_cmp, bool_cmp}
use Rattle.std.specs.Cmp.Lexicographic.{pointwise, slice_cmp}
use Rattle.std.specs.declared.cmp.Ordering.{Ordering}
use Rattle.dns_octets.specs.Builder.{IsPast}
use Rattle.dns_name.specs.Page.{Parts}
use Rattle.dns_name.specs.Page.Parts.{End, Octets}
use Rattle.dns_name.specs.Unknown.{UnknownData, IsUnknownAt}
use Rattle.dns_text.specs.Token.{Token, marker}
use Rattle.dns_text.specs.UnknownData.{IsUnknownData}
use Rattle.dns_text.specs.Document.{Piece}
use Rattle.dns_text.specs.Documents.{block_of, unknown_tokens}
use Rattle.dns_fields.specs.Fields.{Field, kinds_of, canonical_octets}
use Rattle.dns_fields.specs.Alike.{keys}
use Rattle.dns_fields.specs.Held.{OneIsPast}
use Rattle.dns_fields.specs.Reading.{ReadsRow}
use Rattle.dns_fields.specs.Scanned.{ScansData, ScansLong}
use Rattle.dns_fields.specs.Shown.{data_pieces}
use Rattle.dns_fields.specs.Written.{written_parts}

-- the number of a type with the row of its fields, or unknown data
pub data Data : Type 0 where
  typed : ℕ → List Field → Data
  unknown_data : UnknownData → Data

abbrev pub number_of : Data → ℕ
number_of (typed number row) = number
number_of (unknown_data unknown) = unknown.number

-- whether it is unknown
abbrev pub is_unknown : Data → Bool
is_unknown (typed number row) = false
is_unknown (unknown_data unknown) = true

-- what the data is written as
abbrev pub parts_of : Data → Parts
parts_of (typed number row) = written_parts row
parts_of (unknown_data unknown) = Octets unknown.octets End

-- the canonical form (RFC 4034 6.2); that of unknown data is its octets
abbrev pub canonical_of : Data → List ℕ
canonical_of (typed number row) = canonical_octets row
canonical_of (unknown_data unknown) = unknown.octets

-- The octets from the place on are the data of the type: fields where the type has some, and else unknown data.
abbrev pub ReadsData : List ℕ → ℕ → ℕ → Data → Type 0
ReadsData message place rtype (typed number row) = (number ≡ rtype) × ReadsRow rtype message place row
ReadsData message place rtype (unknown_data unknown) = (kinds_of rtype ≡ None) × IsUnknownAt message place rtype unknown

-- what counts of the fields, or the octets
abbrev pub counted : Data → List (List ℕ)
counted (typed number row) = keys row
counted (unknown_data unknown) = unknown.octets ∷ []

-- data is equal if of the same type, with fields or unknown alike, and the same counts of it
unfoldable pub data_eq : Data → Data → Bool
data_eq = eq_of_both (on number_of nat_eq) (eq_of_both (on is_unknown beq) (on counted (pointwise (pointwise nat_eq))))

-- by type, then fields before unknown data, then by what counts
unfoldable pub data_cmp : Data → Data → Ordering
data_cmp = then_cmp (on number_of nat_cmp) (then_cmp (on is_unknown bool_cmp) (on counted (slice_cmp (slice_cmp nat_cmp))))

-- by type, and then by the canonical octets, typed or not (RFC 4034 6.3)
unfoldable pub canonical_data_cmp : Data → Data → Ordering
canonical_data_cmp = then_cmp (on number_of nat_cmp) (on canonical_of (slice_cmp nat_cmp))

-- how data is hashed: by its type, and by what counts of its fields, or by its type and its octets
abbrev pub data_hashed : Data → List (List ℕ)
data_hashed (typed number row) = fed.u16 number ++ keys row
data_hashed (unknown_data unknown) = fed.u16 unknown.number ++ (fed.u16 unknown.number ++ fed.slice fed.u8 unknown.octets)

-- of fields of one type, or both unknown
abbrev pub AreOfOneKind : Data → Data → Type 0
AreOfOneKind (typed number row) (typed other fields) = number ≡ other
AreOfOneKind (typed number row) (unknown_data other) = ⊥
AreOfOneKind (unknown_data unknown) (typed other fields) = ⊥
AreOfOneKind (unknown_data unknown) (unknown_data other) = ⊤

-- the first token is not what marks unknown data
abbrev pub IsUnmarked : List Token → Type 0
IsUnmarked tokens = (words : List Token) → tokens ≡ marker ∷ words → ⊥

-- The tokens begin with the text of data of the type, and these are left: unknown data, whatever the type, where the first one
-- marks it (RFC 3597 5), and else fields.
abbrev pub ScansAnyData : (List ℕ → List (List ℕ) → Type 0) → ℕ → Data → List Token → List Token → Type 0
ScansAnyData names rtype (typed number row) tokens left =
    IsUnmarked tokens × (number ≡ rtype) × ScansData names rtype row tokens left
ScansAnyData names rtype (unknown_data unknown) tokens left =
    (unknown.number ≡ rtype) × (words : List Token) × (tokens ≡ marker ∷ words) × IsUnknownData words unknown.octets
    × (left ≡ [])

-- If the tokens do not begin with a text of its fields that has too many octets, they begin with none of data of the type. Where the
-- first one marks unknown data, there are no fields.
abbrev pub NoAnyDataScans : (List ℕ → List (List ℕ) → Type 0) → ℕ → List Token → Type 0
NoAnyDataScans names rtype tokens =
    (IsUnmarked tokens → ScansLong names rtype tokens → ⊥) → (rdata : Data) (left : List Token) → ScansAnyData names rtype rdata tokens left → ⊥

-- how the data is printed
abbrev pub document_of : Data → List Piece
document_of (typed number row) = block_of (data_pieces number row)
document_of (unknown_data unknown) = block_of (unknown_tokens unknown.octets)

-- a field holds more octets than the bound, or unknown data has more
abbrev pub HoldsPast : Option ℕ → Data → Type 0
HoldsPast bound (typed number row) = OneIsPast bound row
HoldsPast bound (unknown_data unknown) = IsPast bound (length unknown.octets)
