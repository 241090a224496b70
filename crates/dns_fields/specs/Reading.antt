-- Data as a reader takes it out of a message: fields one after another, up to the end of the octets (RFC 1035 3.2.1).
use Rattle.std.specs.Prelude.{◌≡◌, ◌≤◌, ◌^◌, ◌⊎◌, ℕ, List, [], ◌∷◌, length, map, Some, IsSomeAnd}
use Rattle.std.specs.List.{AllByRecursion}
use Rattle.dns_name.specs.Cut.{IsCut}
use Rattle.dns_name.specs.Page.{Parts}
use Rattle.dns_name.specs.Page.Parts.{End, Octets, Named}
use Rattle.dns_name.specs.SpelledParts.{SpellsParts}
use Rattle.dns_fields.specs.Fields.{Kind, Compressible, Uncompressed, Strings, Field, compressible, uncompressed, kind_of, kinds_of, field_octets, octets, IsField, IsRow}

-- a field before parts: any name may have a pointer (RFC 3597 4 asks readers for that)
abbrev pub read_field : Field → Parts → Parts
read_field (compressible name) behind = Named name behind
read_field (uncompressed name) behind = Named name behind
read_field field behind = Octets (field_octets field) behind

-- the parts of a row
abbrev pub read_parts : List Field → Parts
read_parts [] = End
read_parts (field ∷ row) = read_field field (read_parts row)

-- the field is at the place, and `next` is the place after it
pub record ReadsField (message : List ℕ) (place : ℕ) (field : Field) (next : ℕ) : Type 0 where
  pub is_field : IsField field
  pub spelled : SpellsParts message place (read_field field End) next

-- the fields are from the place on, with nothing after them
pub record ReadsFields (message : List ℕ) (place : ℕ) (row : List Field) : Type 0 where
  pub each : AllByRecursion IsField row
  pub spelled : SpellsParts message place (read_parts row) (length message)

-- the octets from the place on are this data of the type
pub record ReadsRow (rtype : ℕ) (message : List ℕ) (place : ℕ) (row : List Field) : Type 0 where
  pub is_row : IsRow rtype row
  pub spelled : SpellsParts message place (read_parts row) (length message)

-- this field is the only one of its kind at the place
pub record IsSoleField (message : List ℕ) (place : ℕ) (field : Field) (next : ℕ) : Type 0 where
  pub sole : (other : Field) (end : ℕ) → kind_of other ≡ kind_of field → ReadsField message place other end
      → (other ≡ field) × (end ≡ next)

-- these fields alone of their kinds do
pub record AreSoleFields (message : List ℕ) (place : ℕ) (row : List Field) : Type 0 where
  pub sole : (others : List Field) → map kind_of others ≡ map kind_of row → ReadsFields message place others → others ≡ row

-- no field of the kind is at the place, no fields of the kinds, no data of the type
abbrev pub NoField : List ℕ → ℕ → Kind → Type 0
NoField message place kind = (field : Field) (next : ℕ) → kind_of field ≡ kind → ReadsField message place field next → ⊥

abbrev pub NoFields : List ℕ → ℕ → List Kind → Type 0
NoFields message place kinds = (row : List Field) → map kind_of row ≡ kinds → ReadsFields message place row → ⊥

abbrev pub NoRow : ℕ → List ℕ → ℕ → Type 0
NoRow rtype message place = (row : List Field) → ReadsRow rtype message place row → ⊥

-- The octets end too early for a field of the kind at the place: for a name, after labels and pointers that begin one (RFC 1035
-- 3.1, 4.1.4), of at most 255 octets and 255 pointers. A field of another kind is missing for no other reason; strings have all
-- octets that are left, so that they are cut where these are not whole strings.
abbrev pub IsCutField : List ℕ → ℕ → Kind → Type 0
IsCutField message place Compressible = IsCut message 255 254 place
IsCutField message place Uncompressed = IsCut message 255 254 place
IsCutField message place Strings = NoFields message place (Strings ∷ [])
IsCutField message place kind = NoField message place kind

-- they end too early for fields of the kinds: for one of them, after those before it
abbrev pub AreCutFields : List ℕ → ℕ → List Kind → Type 0
AreCutFields message place [] = ⊥
AreCutFields message place (kind ∷ kinds) =
    IsCutField message place kind
    ⊎ ((field : Field) × (next : ℕ) × (kind_of field ≡ kind) × ReadsField message place field next × AreCutFields message next kinds)

-- for data of the type
abbrev pub IsCutRow : ℕ → List ℕ → ℕ → Type 0
IsCutRow rtype message place = IsSomeAnd (kinds_of rtype) (AreCutFields message place)

-- What is from the place on would be data of the type, if it had not more than 65,535 octets with its names in full (RFC 1035
-- 3.2.1): with pointers the octets themselves may be few.
pub record IsLongRow (rtype : ℕ) (message : List ℕ) (place : ℕ) : Type 0 where
  pub row : List Field
  pub kinds : kinds_of rtype ≡ Some (map kind_of row)
  pub reads : ReadsFields message place row
  pub long : 2 ^ 16 ≤ length (octets row)
