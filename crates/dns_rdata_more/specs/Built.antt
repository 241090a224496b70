-- Data of the values of its fields.
use Rattle.std.specs.Prelude.{◌≡◌, ◌≤◌, ◌<◌, ℕ, List, [], ◌∷◌, length, Result, Ok, Err, ⊤}
use Rattle.std.specs.Int.{to_be_bytes, w16, w32}
use Rattle.dns_label.specs.Name.{wire}
use Rattle.dns_scan.specs.CharStr.{string_wire}
use Rattle.dns_fields.specs.Fields.{Field, octets}
use Rattle.dns_field_texts.specs.TypeBitmap.{IsBitmapOf}
use Rattle.dns_fields_more.specs.Values.{field_of}
use Rattle.dns_fields_more.specs.declared.form.Form.{Form}
use Rattle.dns_fields_more.specs.declared.value.Value.{Value}
use Rattle.dns_fields_more.specs.declared.value.Value.TheVariants as value
use Rattle.dns_rdata_more.specs.declared.build.BuildError.{BuildError}
use Rattle.dns_rdata_more.specs.declared.build.BuildError.TheVariants.{LongRecordData, LongString, BadField, OutOfMemory}

-- the fields of the forms that the values are, one each
abbrev pub fields_of : List Form → List Value → List Field
fields_of [] values = []
fields_of (form ∷ forms) [] = []
fields_of (form ∷ forms) (value' ∷ values) = field_of form value' ∷ fields_of forms values

-- the octets of a value, whatever its form
abbrev pub value_octets : Value → List ℕ
value_octets (value.Number8 n) = n ∷ []
value_octets (value.Number16 n) = to_be_bytes w16 n
value_octets (value.Number32 n) = to_be_bytes w32 n
value_octets (value.Name name) = wire name
value_octets (value.String octets) = string_wire octets
value_octets (value.Rest octets) = octets.now

-- The data is the octets of the row, or these are too many for the data of a record, or there is no memory for them.
abbrev pub Makes : List Field → Result (List ℕ) BuildError → Type 0
Makes row (Ok rdata) = (rdata ≡ octets row) × (length (octets row) ≤ 65535)
Makes row (Err LongRecordData) = 65535 < length (octets row)
Makes row (Err LongString) = ⊥
Makes row (Err BadField) = ⊥
Makes row (Err OutOfMemory) = ⊤

-- The same, if the strings are short enough and the fields keep the rules of their forms; otherwise it says which do not.
abbrev pub MakesIf : Type 0 → Type 0 → List Field → Result (List ℕ) BuildError → Type 0
MakesIf Short Keep row (Ok rdata) = Short × Keep × Makes row (Ok rdata)
MakesIf Short Keep row (Err LongRecordData) = 65535 < length (octets row)
MakesIf Short Keep row (Err LongString) = Short → ⊥
MakesIf Short Keep row (Err BadField) = Keep → ⊥
MakesIf Short Keep row (Err OutOfMemory) = ⊤

-- The same, where the row has the bitmap of these types.
abbrev pub MakesTypes : List ℕ → Type 0 → Type 0 → (List ℕ → List Field) → Result (List ℕ) BuildError → Type 0
MakesTypes types Short Keep row (Ok rdata) = (bitmap : List ℕ) × IsBitmapOf types bitmap × MakesIf Short Keep (row bitmap) (Ok rdata)
MakesTypes types Short Keep row (Err LongRecordData) = (bitmap : List ℕ) × IsBitmapOf types bitmap × (65535 < length (octets (row bitmap)))
MakesTypes types Short Keep row (Err LongString) = Short → ⊥
MakesTypes types Short Keep row (Err BadField) = Keep → ⊥
MakesTypes types Short Keep row (Err OutOfMemory) = ⊤
