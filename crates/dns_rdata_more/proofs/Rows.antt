-- The fields of data, read back from its octets.
use Rattle.std.proofs.Common.{◌≡◌, ℕ, Bool, true, false, List, [], ◌∷◌, ◌++◌, ◌∙◌, length, take, drop, ap, sym, refl, subst, append-nil}
use Rattle.std.specs.Prelude.{Some, Option, unwrap_or}
use Rattle.std.proofs.Math.Seq.{take-append_seam, drop-append_seam}
use Rattle.std.proofs.lemmas.Nat.{from_be_bytes-to_be_bytes_2, from_be_bytes-to_be_bytes_4}
use Rattle.dns_label.specs.Name.{wire}
use Rattle.dns_label.proofs.Spelling.{labels_at-reads}
use Rattle.dns_canonical_form.proofs.OctetsForms.{last_long, name_decoded, starts_long}
use Rattle.dns_fields.specs.Fields.{Kind, Field, IsField, kind_of, field_octets, field_at, octets, number8, number16, number32, ipv4, ipv6, compressible, uncompressed, string, strings, tag, rest_text, rest16, rest64}
use Rattle.dns_fields.specs.Fields as kinds
use Rattle.dns_fields.specs.OctetsForm.{len_in, StartsWithField}
use Rattle.dns_fields.specs.OctetsForm as ends
use Rattle.dns_fields_more.specs.Forms.{AreFieldsOf, IsFieldOf, IsFurtherCanonical, IsFurtherRow, forms_of, is_last, kind_of_form, lowered_as, lowered_row}
use Rattle.dns_fields_more.specs.Rows.{EndWell, StandAs}
use Rattle.dns_fields_more.specs.Values.{StandsIn}
use Rattle.dns_fields_more.specs.declared.form.Form.{Form}
use Rattle.dns_fields_more.specs.declared.form.Form.TheVariants.{Number8, Number16, Number32, Name, CasedName, String, RestText, Rest16, Rest64, Rtype as RtypeForm, Algorithm, CertificateType, Time, Salt, Hash, Types, Parameters, Location, Eui48, Eui64}
use Rattle.dns_fields_more.proofs.Rows.{behind, last_of, others_well, table_well}
use Rattle.dns_rdata_more.specs.FurtherData.{IsFieldAt, canonical_of, compared_read, compared_row, field_read, fields_read, forms_or_none, lowered_octets, row_read}

-- the kinds that further types have
abbrev is_read : Kind → Bool
is_read kinds.Number8 = true
is_read kinds.Number16 = true
is_read kinds.Number32 = true
is_read kinds.Uncompressed = true
is_read kinds.String = true
is_read kinds.RestText = true
is_read kinds.Rest16 = true
is_read kinds.Rest64 = true
is_read kind = false

forms_are_read : (form : Form) → is_read (kind_of_form form) ≡ true
forms_are_read Number8 = refl
forms_are_read Number16 = refl
forms_are_read Number32 = refl
forms_are_read Name = refl
forms_are_read CasedName = refl
forms_are_read String = refl
forms_are_read RestText = refl
forms_are_read Rest16 = refl
forms_are_read Rest64 = refl
forms_are_read RtypeForm = refl
forms_are_read Algorithm = refl
forms_are_read CertificateType = refl
forms_are_read Time = refl
forms_are_read Salt = refl
forms_are_read Hash = refl
forms_are_read Types = refl
forms_are_read Parameters = refl
forms_are_read Location = refl
forms_are_read Eui48 = refl
forms_are_read Eui64 = refl

-- a form ends as its kind does
pub ends_alike : (form : Form) → ends.is_last (kind_of_form form) ≡ is_last form
ends_alike Number8 = refl
ends_alike Number16 = refl
ends_alike Number32 = refl
ends_alike Name = refl
ends_alike CasedName = refl
ends_alike String = refl
ends_alike RestText = refl
ends_alike Rest16 = refl
ends_alike Rest64 = refl
ends_alike RtypeForm = refl
ends_alike Algorithm = refl
ends_alike CertificateType = refl
ends_alike Time = refl
ends_alike Salt = refl
ends_alike Hash = refl
ends_alike Types = refl
ends_alike Parameters = refl
ends_alike Location = refl
ends_alike Eui48 = refl
ends_alike Eui64 = refl

-- a field is read from its octets
read_back : (field : Field) → IsField field → is_read (kind_of field) ≡ true → field_read (kind_of field) (field_octets field) ≡ field
read_back (number8 n) is read = refl
read_back (number16 n) is read = ap number16 (from_be_bytes-to_be_bytes_2 n is)
read_back (number32 n) is read = ap number32 (from_be_bytes-to_be_bytes_4 n is)
read_back (uncompressed name) is read = ap uncompressed (labels_at-reads (name_decoded (wire name) name [] is (sym (append-nil (wire name)))))
read_back (string text) is read = refl
read_back (rest_text text) is read = refl
read_back (rest16 text) is read = refl
read_back (rest64 text) is read = refl
read_back (ipv4 text) is read = absurd (cc)
read_back (ipv6 text) is read = absurd (cc)
read_back (compressible name) is read = absurd (cc)
read_back (strings each) is read = absurd (cc)
read_back (tag text) is read = absurd (cc)

field_back : (form : Form) (field : Field) → IsFieldOf form field → field_read (kind_of_form form) (field_octets field) ≡ field
field_back form field is =
    ap (λ k. field_read k (field_octets field)) (sym is.kind)
    ∙ read_back field is.is_field (ap is_read is.kind ∙ forms_are_read form)

-- how long the field is that the octets begin with
long_in : (form : Form) (whole : List ℕ) (field : Field) (rest : List ℕ) → StandsIn form whole field rest
    → len_in (kind_of_form form) whole ≡ length (field_octets field)
long_in form whole field rest stands = by (is_last form) refl
  where
    by : (last : Bool) → last ≡ is_last form → len_in (kind_of_form form) whole ≡ length (field_octets field)
    by true last =
        let none = stands.last (sym last) in
        last_long (kind_of_form form) whole (ends_alike form ∙ sym last)
        ∙ ap (length {A = ℕ}) (stands.written ∙ ap (λ l. field_octets field ++ l) none ∙ append-nil (field_octets field))
    by false last =
        let starts : StartsWithField whole (kind_of_form form) field rest = record { is_kind = stands.is.kind; is_field = stands.is.is_field; written = stands.written } in
        starts_long starts (ends_alike form ∙ sym last)

-- a row is read from its octets
pub rows_back : (forms : List Form) (row : List Field) → EndWell forms → AreFieldsOf forms row → fields_read forms (octets row) ≡ row
rows_back [] [] well each = refl
rows_back [] (field ∷ row) well each = absurd each
rows_back (form ∷ forms) [] well each = absurd each
rows_back (form ∷ forms) (field ∷ row) well each =
    let whole : List ℕ = field_octets field ++ octets row in
    let stands : StandsIn form whole field (octets row) = record { is = each.0; written = refl; last = last_of form forms row well each.1 } in
    let long : len_in (kind_of_form form) whole ≡ length (field_octets field) = long_in form whole field (octets row) stands in
    let front : take (len_in (kind_of_form form) whole) whole ≡ field_octets field =
    ap (λ n. take n whole) long ∙ take-append_seam (field_octets field) (octets row) in
    let back : drop (len_in (kind_of_form form) whole) whole ≡ octets row =
    ap (λ n. drop n whole) long ∙ drop-append_seam (field_octets field) (octets row) in
    let first : field_read (kind_of_form form) (take (len_in (kind_of_form form) whole) whole) ≡ field =
    ap (field_read (kind_of_form form)) front ∙ field_back form field each.0 in
    let others : fields_read forms (drop (len_in (kind_of_form form) whole) whole) ≡ row =
    ap (fields_read forms) back ∙ rows_back forms row (others_well form forms well) each.1 in
    λ i. first i ∷ others i

-- the canonical form of a row, by its octets
pub lowered_back : (forms : List Form) (row : List Field) → EndWell forms → AreFieldsOf forms row
    → lowered_octets forms (octets row) ≡ octets (lowered_row forms row)
lowered_back forms row well each = ap (λ r. octets (lowered_row forms r)) (rows_back forms row well each)

-- its first field, and what is behind it
pub lowered_first : {forms others : List Form} {form : Form} {whole rest : List ℕ} {field : Field} → forms ≡ form ∷ others → EndWell forms
    → StandsIn form whole field rest → StandAs forms whole
    → lowered_octets forms whole ≡ field_octets (lowered_as form field) ++ lowered_octets others rest
lowered_first {forms} {others} {form} {whole} {rest} {field} is well stands row =
    let well' : EndWell (form ∷ others) = subst EndWell is well in
    let left : StandAs others rest = behind form others whole rest field well' stands (subst (λ l. StandAs l whole) is row) in
    let written : whole ≡ octets (field ∷ left.row) = stands.written ∙ ap (λ l. field_octets field ++ l) left.written in
    let each : AreFieldsOf (form ∷ others) (field ∷ left.row) = (stands.is, left.each) in
    (λ i. lowered_octets (is i) (written i)) ∙ lowered_back (form ∷ others) (field ∷ left.row) well' each
    ∙ ap (λ l. field_octets (lowered_as form field) ++ l)
    (sym (ap (lowered_octets others) left.written ∙ lowered_back others left.row (others_well form others well') left.each))

-- the fields that are read: the first one, and those behind it
pub read_first : {forms others : List Form} {form : Form} {whole rest : List ℕ} {field : Field} → forms ≡ form ∷ others → EndWell forms
    → StandsIn form whole field rest → StandAs forms whole → fields_read forms whole ≡ field ∷ fields_read others rest
read_first {forms} {others} {form} {whole} {rest} {field} is well stands row =
    let well' : EndWell (form ∷ others) = subst EndWell is well in
    let left : StandAs others rest = behind form others whole rest field well' stands (subst (λ l. StandAs l whole) is row) in
    let written : whole ≡ octets (field ∷ left.row) = stands.written ∙ ap (λ l. field_octets field ++ l) left.written in
    let each : AreFieldsOf (form ∷ others) (field ∷ left.row) = (stands.is, left.each) in
    (λ i. fields_read (is i) (written i)) ∙ rows_back (form ∷ others) (field ∷ left.row) well' each
    ∙ ap (λ r. field ∷ r) (sym (ap (fields_read others) left.written ∙ rows_back others left.row (others_well form others well') left.each))

-- the row of the type is that of its forms
pub compared_forms : (rtype : ℕ) (forms : List Form) (whole : List ℕ) → forms_of rtype ≡ Some forms → compared_row rtype whole ≡ compared_read forms whole
unfolding compared_row
compared_forms rtype forms whole its = λ i. compared_read (unwrap_or (its i) []) whole

pub forms_one : (rtype : ℕ) (forms : List Form) → forms_of rtype ≡ Some forms → forms_or_none rtype ≡ forms
forms_one rtype forms its = ap (λ (found : Option (List Form)). unwrap_or found []) its

pub row_back : (rtype : ℕ) (row : List Field) → IsFurtherRow rtype row → row_read rtype (octets row) ≡ row
unfolding row_read
row_back rtype row is =
    ap (λ (forms : List Form). fields_read forms (octets row)) (forms_one rtype is.forms is.its)
    ∙ rows_back is.forms row (table_well rtype is.forms is.its) is.each

pub canonical_back : (rtype : ℕ) (given canonical : List ℕ) → IsFurtherCanonical rtype given canonical → canonical_of rtype given ≡ canonical
unfolding canonical_of
canonical_back rtype given canonical is =
    let same : is.is_row.forms ≡ is.forms = (let e : Some is.is_row.forms ≡ Some is.forms = sym is.is_row.its ∙ is.its in cc) in
    (λ i. lowered_octets (forms_one rtype is.forms is.its i) (is.written i))
    ∙ lowered_back is.forms is.row (table_well rtype is.forms is.its) (subst (λ (l : List Form). AreFieldsOf l is.row) same is.is_row.each)
    ∙ sym is.lowers

-- one field at a place
pub field_one : (rtype place : ℕ) (given : List ℕ) (field other : Field) → IsFieldAt rtype given place field → IsFieldAt rtype given place other → field ≡ other
field_one rtype place given field other is is' =
    let same : is.row ≡ is'.row =
    sym (row_back rtype is.row is.is_row) ∙ ap (row_read rtype) (sym is.written ∙ is'.written) ∙ row_back rtype is'.row is'.is_row in
    let e : Some field ≡ Some other = sym is.there ∙ ap (field_at place) same ∙ is'.there in
    (cc)
