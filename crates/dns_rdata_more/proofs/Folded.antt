-- Fields with their letters in lower case, compared and hashed.
use Rattle.std.proofs.Common.{◌≡◌, ◌∙◌, ◌∷◌, ℕ, List, length, map, ap, sym, refl}
use Rattle.std.proofs.lemmas.List.{length-map}
use Rattle.std.specs.Prelude.{fold}
use Rattle.std.specs.Char.{to_ascii_lowercase}
use Rattle.std.specs.declared.cmp.Ordering.{Ordering}
use Rattle.std.specs.Ordering.{ordering_then, nat_cmp}
use Rattle.std.specs.Cmp.Lexicographic.{slice_cmp}
use Rattle.dns_wire.proofs.Case.{low_wire}
use Rattle.dns_fields.specs.Alike.{folded, keys, rows_cmp}
use Rattle.dns_fields.specs.Fields.{Kind, Field, IsField, field_octets, kind_of, number8, number16, number32, ipv4, ipv6, compressible, uncompressed, string, strings, tag, rest_text, rest16, rest64}
use Rattle.dns_fields.specs.Fields as kinds
use Rattle.dns_fields_more.specs.Forms.{IsFieldOf}
use Rattle.dns_fields_more.specs.Rows.{EndWell, StandAs}
use Rattle.dns_fields_more.specs.Values.{StandsIn, rest_field}
use Rattle.dns_fields_more.specs.declared.form.Form.{Form}
use Rattle.dns_fields_more.specs.declared.form.Form.TheVariants.{RestText, Rest64, Salt, Hash}
use Rattle.dns_rdata_more.specs.Folded.{folded_octets, folded_string}
use Rattle.dns_rdata_more.specs.FurtherData.{compared, compared_fields, compared_read}
use Rattle.dns_rdata_more.proofs.Ordered.{Cut}
use Rattle.dns_rdata_more.proofs.Rows.{read_first}

-- a string in lower case is as long
string_folds : (octets : List ℕ) → field_octets (folded (string octets)) ≡ length octets ∷ map to_ascii_lowercase octets
string_folds octets = ap (λ n. n ∷ map to_ascii_lowercase octets) (length-map octets to_ascii_lowercase)

-- the octets of a field of the kind, with the letters in lower case whose case doesn't count
abbrev folded_kind : Kind → List ℕ → List ℕ
folded_kind kinds.Compressible octets = map to_ascii_lowercase octets
folded_kind kinds.Uncompressed octets = map to_ascii_lowercase octets
folded_kind kinds.String octets = folded_string octets
folded_kind kinds.Tag octets = folded_string octets
folded_kind kind octets = octets

-- the octets of a field in lower case
folds : (field : Field) → IsField field → field_octets (folded field) ≡ folded_kind (kind_of field) (field_octets field)
folds (number8 n) is = refl
folds (number16 n) is = refl
folds (number32 n) is = refl
folds (ipv4 octets) is = refl
folds (ipv6 octets) is = refl
folds (compressible name) is = sym (low_wire name is.labels)
folds (uncompressed name) is = sym (low_wire name is.labels)
folds (string octets) is = string_folds octets
folds (strings each) is = refl
folds (tag octets) is = string_folds octets
folds (rest_text octets) is = refl
folds (rest16 octets) is = refl
folds (rest64 octets) is = refl

form_folds : (form : Form) (field : Field) → IsFieldOf form field → field_octets (folded (compared form field)) ≡ folded_octets form (field_octets field)
form_folds Salt field is = refl
form_folds Hash field is = refl
form_folds form field is = folds field is.is_field ∙ ap (λ k. folded_kind k (field_octets field)) is.kind

-- data compares as its first fields do, or else as what is behind them
pub alike_compared : {forms left : List Form} {form : Form} {whole first behind whole' first' behind' : List ℕ} {order : Ordering}
    → forms ≡ form ∷ left → Cut forms left form whole first behind → Cut forms left form whole' first' behind'
    → order ≡ slice_cmp nat_cmp (folded_octets form first) (folded_octets form first')
    → rows_cmp (compared_read forms whole) (compared_read forms whole')
    ≡ ordering_then order (rows_cmp (compared_read left behind) (compared_read left behind'))
unfolding rows_cmp
alike_compared {forms} {left} {form} {whole} {first} {behind} {whole'} {first'} {behind'} {order} its one two is =
    let key : field_octets (folded (compared form one.field)) ≡ folded_octets form first =
    form_folds form one.field one.stands.is ∙ ap (folded_octets form) (sym one.first_is) in
    let key' : field_octets (folded (compared form two.field)) ≡ folded_octets form first' =
    form_folds form two.field two.stands.is ∙ ap (folded_octets form) (sym two.first_is) in
    let rest : Ordering = slice_cmp (slice_cmp nat_cmp) (keys (compared_read left behind)) (keys (compared_read left behind')) in
    (λ i. slice_cmp (slice_cmp nat_cmp) (keys (compared_fields (its i) (one.read_is i))) (keys (compared_fields (its i) (two.read_is i))))
    ∙ ap (λ (o : Ordering). ordering_then o rest) ((λ i. slice_cmp nat_cmp (key i) (key' i)) ∙ sym is)

-- all octets that are left are hashed as they are
pub rest_folds : (form : Form) (octets : List ℕ) → field_octets (folded (rest_field form octets)) ≡ octets
rest_folds RestText octets = refl
rest_folds Rest64 octets = refl
rest_folds form octets = refl

-- the first field is hashed, and then those behind it
pub hashed_on : {S : Type 0} (write : S → List ℕ → S) {forms others : List Form} {form : Form} {whole rest : List ℕ} {field : Field} {old middle new : S}
    → forms ≡ form ∷ others → EndWell forms → StandsIn form whole field rest → StandAs forms whole
    → middle ≡ write old (field_octets (folded (compared form field))) → new ≡ fold write middle (keys (compared_read others rest))
    → new ≡ fold write old (keys (compared_read forms whole))
hashed_on write {others = others} {rest = rest} {old = old} is well stands row first behind =
    behind ∙ ap (λ s. fold write s (keys (compared_read others rest))) first
    ∙ sym (λ i. fold write old (keys (compared_fields (is i) (read_first is well stands row i))))
