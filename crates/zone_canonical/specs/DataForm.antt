-- The canonical form of data, as a function of its octets (RFC 4034 6.2). Only contracts inside the crate name it.
use Rattle.std.specs.Prelude.{◌≡◌, ◌≤◌, ℕ, List, [], ◌∷◌, ◌++◌, length, map, take, drop, Option, Some, None}
use Rattle.std.specs.Char.{to_ascii_lowercase}
use Rattle.dns_rdata.specs.Fields.{IsData, Kind, kinds_of}
use Rattle.dns_rdata.specs.OctetsForm.{form_of_kind, len_in}

-- the octets of fields of these kinds, with those of names in lower case
abbrev pub fields_form : List Kind → List ℕ → List ℕ
fields_form [] data' = data'
fields_form (kind ∷ kinds) data' =
    form_of_kind kind (take (len_in kind data') data') ++ fields_form kinds (drop (len_in kind data') data')

-- unknown data is its octets
abbrev pub form_by : Option (List Kind) → List ℕ → List ℕ
form_by None data' = data'
form_by (Some kinds) data' = fields_form kinds data'

-- Data of a type in canonical form. If it is no data of the type, the value means nothing.
unfoldable pub data_form : ℕ → List ℕ → List ℕ
data_form rtype data' = form_by (kinds_of rtype) data'

-- the canonical form of data of the type has all octets from this place on in lower case, and those before it as they are
abbrev pub EndsInNames : ℕ → ℕ → Type 0
EndsInNames rtype place =
    (data' : List ℕ) → IsData rtype data'
    → (place ≤ length data') × (data_form rtype data' ≡ take place data' ++ map to_ascii_lowercase (drop place data'))
