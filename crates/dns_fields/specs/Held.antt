-- What the values of a row hold in octets of their own, and where these have no room for it.
use Rattle.std.specs.Prelude.{◌≤◌, ℕ, Bool, true, false, IsTrue, List, [], ◌∷◌, length, Option, ◌⊎◌}
use Rattle.std.specs.List.{flat_map, list_any}
use Rattle.dns_label.specs.Name.{wire}
use Rattle.dns_octets.specs.Builder.{IsPast}
use Rattle.dns_scan.specs.CharStr.{string_wire}
use Rattle.dns_fields.specs.Fields.{Field, number8, number16, number32, ipv4, ipv6, compressible, uncompressed, string, strings, tag, rest_text, rest16, rest64, octets}

-- the octets that a value of the field holds: those of a name or a rest as they are written, those of a string without its
-- length; a number or an address holds none
abbrev pub held_octets : Field → List ℕ
held_octets (number8 n) = []
held_octets (number16 n) = []
held_octets (number32 n) = []
held_octets (ipv4 octets) = []
held_octets (ipv6 octets) = []
held_octets (compressible name) = wire name
held_octets (uncompressed name) = wire name
held_octets (string octets) = octets
held_octets (strings each) = flat_map string_wire each
held_octets (tag octets) = octets
held_octets (rest_text octets) = octets
held_octets (rest16 octets) = octets
held_octets (rest64 octets) = octets

-- a field of the row holds more octets than the bound
abbrev pub OneIsPast : Option ℕ → List Field → Type 0
OneIsPast bound [] = ⊥
OneIsPast bound (field ∷ row) = IsPast bound (length (held_octets field)) ⊎ OneIsPast bound row

-- whether a value of the field holds octets of its own
abbrev pub holds_octets : Field → Bool
holds_octets (number8 n) = false
holds_octets (number16 n) = false
holds_octets (number32 n) = false
holds_octets (ipv4 octets) = false
holds_octets (ipv6 octets) = false
holds_octets field = true

-- whether a field of the row does
abbrev pub hold_octets : List Field → Bool
hold_octets row = list_any holds_octets row

-- whether the field may have any number of octets
abbrev pub is_unbounded : Field → Bool
is_unbounded (strings each) = true
is_unbounded (rest_text octets) = true
is_unbounded (rest16 octets) = true
is_unbounded (rest64 octets) = true
is_unbounded field = false

-- A row with such a field has at most 65,535 octets, as every row of other fields that a type has (RFC 1035 3.2.1).
abbrev pub FitsRecord : List Field → Type 0
FitsRecord row = IsTrue (list_any is_unbounded row) → length (octets row) ≤ 65535
