-- Data of the values of its fields.
use Rattle.std.proofs.Common.{◌≡◌, ◌≤◌, ◌++◌, ℕ, List, [], ◌∷◌, ◌∙◌, length, append-nil, append_assoc, ap, sym, refl, arith, rules}
use Rattle.std.specs.Prelude.{Option, Some, None, IsSome, unwrap_or, true}
use Rattle.std.specs.List.{flat_map}
use Rattle.std.specs.Borrow.{Bor}
use Rattle.dns_fields.specs.Fields.{field_octets, octets}
use Rattle.dns_fields_more.specs.Forms.{AreFieldsOf, IsFieldOf, IsFurtherData, Keeps, forms_of, is_last}
use Rattle.dns_fields_more.specs.Values.{NoneStandsIn, field_of, rest_field}
use Rattle.dns_fields_more.specs.declared.form.Form.{Form}
use Rattle.dns_fields_more.specs.declared.form.Form.TheVariants.{Number8, Number16, Number32, Name, CasedName, String, RestText, Rest16, Rest64, Rtype as RtypeForm, Algorithm, CertificateType, Time, Salt, Hash, Types, Parameters, Location, Eui48, Eui64}
use Rattle.dns_fields_more.specs.declared.value.Value.{Value}
use Rattle.dns_fields_more.specs.declared.value.Value.TheVariants as value
use Rattle.dns_rdata_more.specs.Built.{fields_of, value_octets}
use Rattle.dns_rdata_more.specs.FurtherData.{forms_or_none}

rest_built : (form : Form) (text : List ℕ) → field_octets (rest_field form text) ≡ text
rest_built Number8 text = refl
rest_built Number16 text = refl
rest_built Number32 text = refl
rest_built Name text = refl
rest_built CasedName text = refl
rest_built String text = refl
rest_built RestText text = refl
rest_built Rest16 text = refl
rest_built Rest64 text = refl
rest_built RtypeForm text = refl
rest_built Algorithm text = refl
rest_built CertificateType text = refl
rest_built Time text = refl
rest_built Salt text = refl
rest_built Hash text = refl
rest_built Types text = refl
rest_built Parameters text = refl
rest_built Location text = refl
rest_built Eui48 text = refl
rest_built Eui64 text = refl

-- a field has the octets of its value
field_built : (form : Form) (its : Value) → field_octets (field_of form its) ≡ value_octets its
field_built form (value.Number8 n) = refl
field_built form (value.Number16 n) = refl
field_built form (value.Number32 n) = refl
field_built form (value.Name name) = refl
field_built form (value.String text) = refl
field_built form (value.Rest text) = rest_built form text.now

-- and a row those of its values
pub row_built : (forms : List Form) (values : List Value) → length values ≡ length forms
    → octets (fields_of forms values) ≡ flat_map value_octets values
row_built [] [] same = refl
row_built [] (its ∷ values) same = absurd (omega (arith, same))
row_built (form ∷ forms) [] same = absurd (omega (arith, same))
row_built (form ∷ forms) (its ∷ values) same =
    let one = field_built form its in
    let others = row_built forms values (omega (arith, same)) in
    λ i. one i ++ others i

there : (found : Option (List Form)) → IsSome found → found ≡ Some (unwrap_or found [])
there None some = absurd (search rules)
there (Some forms) some = refl

-- the values of the fields are data, if they are not too many octets
pub data_built : (rtype : ℕ) (values : List Value) (whole : List ℕ) → IsSome (forms_of rtype) → length values ≡ length (forms_or_none rtype)
    → AreFieldsOf (forms_or_none rtype) (fields_of (forms_or_none rtype) values) → whole ≡ flat_map value_octets values → length whole ≤ 65535
    → IsFurtherData rtype whole
data_built rtype values whole some count each is few =
    let written : whole ≡ octets (fields_of (forms_or_none rtype) values) = is ∙ sym (row_built (forms_or_none rtype) values count) in
    record {
      row = fields_of (forms_or_none rtype) values;
      is_row = record {
        forms = forms_or_none rtype;
        its = there (forms_of rtype) some;
        each = each;
        short = omega (arith, few, ap (length {A = ℕ}) written);
      };
      written = written;
    }

-- octets that keep the rule of a last form are a field of it
rest_is : (form : Form) (text : List ℕ) → is_last form ≡ true → Keeps form text → IsFieldOf form (rest_field form text)
rest_is Number8 text last keeps = absurd (cc)
rest_is Number16 text last keeps = absurd (cc)
rest_is Number32 text last keeps = absurd (cc)
rest_is Name text last keeps = absurd (cc)
rest_is CasedName text last keeps = absurd (cc)
rest_is String text last keeps = absurd (cc)
rest_is RestText text last keeps = record { kind = refl; is_field = tt; keeps = keeps }
rest_is Rest16 text last keeps = record { kind = refl; is_field = tt; keeps = keeps }
rest_is Rest64 text last keeps = record { kind = refl; is_field = tt; keeps = keeps }
rest_is RtypeForm text last keeps = absurd (cc)
rest_is Algorithm text last keeps = absurd (cc)
rest_is CertificateType text last keeps = absurd (cc)
rest_is Time text last keeps = absurd (cc)
rest_is Salt text last keeps = absurd (cc)
rest_is Hash text last keeps = absurd (cc)
rest_is Types text last keeps = record { kind = refl; is_field = tt; keeps = keeps }
rest_is Parameters text last keeps = record { kind = refl; is_field = tt; keeps = keeps }
rest_is Location text last keeps = record { kind = refl; is_field = tt; keeps = keeps }
rest_is Eui48 text last keeps = record { kind = refl; is_field = tt; keeps = keeps }
rest_is Eui64 text last keeps = record { kind = refl; is_field = tt; keeps = keeps }

pub none_keeps : (form : Form) (given whole : List ℕ) → is_last form ≡ true → given ≡ whole → NoneStandsIn form given → Keeps form whole → ⊥
none_keeps form given whole last same none keeps =
    none (rest_field form whole) []
    (record { is = rest_is form whole last keeps; written = same ∙ sym (append-nil _ ∙ rest_built form whole); last = λ last. refl })

-- the octets of values, and of one after them
flat_last : (values : List Value) (last : Value) → flat_map value_octets (values ++ last ∷ []) ≡ flat_map value_octets values ++ value_octets last
flat_last [] last = append-nil (value_octets last)
flat_last (its ∷ values) last =
    ap (λ l. value_octets its ++ l) (flat_last values last)
    ∙ sym (append_assoc (value_octets its) (flat_map value_octets values) (value_octets last))

pub last_appended : {none front whole : List ℕ} (values : List Value) (last : Bor (List ℕ)) → none ≡ []
    → front ≡ none ++ flat_map value_octets values → whole ≡ front ++ last.now
    → whole ≡ flat_map value_octets (values ++ value.Rest last ∷ [])
last_appended {none} {front} {whole} values last empty first then =
    then ∙ ap (λ l. l ++ last.now) (first ∙ ap (λ l. l ++ flat_map value_octets values) empty) ∙ sym (flat_last values (value.Rest last))

-- octets that were appended to none
pub onto_none : {none front whole : List ℕ} → none ≡ [] → whole ≡ none ++ front → whole ≡ front
onto_none {front = front} empty is = is ∙ ap (λ l. l ++ front) empty

-- how long the data is
pub long_built : (rtype : ℕ) (values : List Value) (whole : List ℕ) → length values ≡ length (forms_or_none rtype)
    → whole ≡ flat_map value_octets values → length (octets (fields_of (forms_or_none rtype) values)) ≡ length whole
long_built rtype values whole count is = ap (length {A = ℕ}) (row_built (forms_or_none rtype) values count ∙ sym is)

pub same_built : (rtype : ℕ) (values : List Value) (given whole : List ℕ) → length values ≡ length (forms_or_none rtype)
    → whole ≡ flat_map value_octets values → given ≡ whole → length whole ≤ 65535
    → (given ≡ octets (fields_of (forms_or_none rtype) values)) × (length (octets (fields_of (forms_or_none rtype) values)) ≤ 65535)
same_built rtype values given whole count is same few =
    (same ∙ is ∙ sym (row_built (forms_or_none rtype) values count), omega (arith, few, long_built rtype values whole count is))
