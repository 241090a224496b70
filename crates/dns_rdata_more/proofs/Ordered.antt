-- Fields in canonical form, compared by their octets.
use Rattle.std.proofs.Common.{◌≡◌, ◌∙◌, ◌++◌, ◌∷◌, [], ℕ, Bool, true, false, List, length, take, drop, ap, sym, refl, subst, arith, append-nil, length-append}
use Rattle.std.specs.declared.cmp.Ordering.{Ordering}
use Rattle.std.specs.declared.cmp.Ordering.TheVariants.{Less, Equal, Greater}
use Rattle.std.specs.Ordering.{ordering_then, nat_cmp}
use Rattle.std.specs.Cmp.Lexicographic.{slice_cmp}
use Rattle.std.proofs.Math.Seq.{take-append_seam, drop-append_seam}
use Rattle.dns_wire.proofs.Case.{low_wire}
use Rattle.dns_wire.proofs.LowNames.{low_name}
use Rattle.dns_fields.specs.Fields.{Field, IsField, field_octets, kind_of, lowered}
use Rattle.dns_fields.specs.OctetsForm.{len_in}
use Rattle.dns_fields.specs.OctetsForm as ends
use Rattle.dns_fields.proofs.FieldKinds.{of_uncompressed}
use Rattle.dns_fields.proofs.NameOctets.{head_seam, same}
use Rattle.dns_canonical_form.proofs.OctetsForms.{field_long}
use Rattle.dns_fields_more.specs.Forms.{IsFieldOf, is_last, kind_of_form, lowered_as}
use Rattle.dns_fields_more.specs.Rows.{EndWell, StandAs, form_lowered}
use Rattle.dns_fields_more.specs.Values.{StandsIn}
use Rattle.dns_fields_more.specs.declared.form.Form.{Form}
use Rattle.dns_fields_more.specs.declared.form.Form.TheVariants.{Number8, Number16, Number32, Name, CasedName, String, RestText, Rest16, Rest64, Rtype as RtypeForm, Algorithm, CertificateType, Time, Salt, Hash, Types, Parameters, Location, Eui48, Eui64}
use Rattle.dns_fields_more.proofs.Rows.{behind, parted}
use Rattle.dns_rdata_more.specs.FurtherData.{fields_read, lowered_octets}
use Rattle.dns_rdata_more.proofs.Rows.{ends_alike, lowered_first, read_first}

-- the octets of a field in canonical form
abbrev Lowers : Form → Field → Type 0
Lowers form field = IsFieldOf form field → field_octets (lowered_as form field) ≡ form_lowered form (field_octets field)

lowers : (form : Form) (field : Field) → Lowers form field
lowers Number8 field is = refl
lowers Number16 field is = refl
lowers Number32 field is = refl
lowers Name field is =
    of_uncompressed (λ f. IsFieldOf Name f → field_octets (lowered f) ≡ form_lowered Name (field_octets f)) field
    (λ name is. sym (low_wire name is.is_field.labels)) is.kind is
lowers CasedName field is = refl
lowers String field is = refl
lowers RestText field is = refl
lowers Rest16 field is = refl
lowers Rest64 field is = refl
lowers RtypeForm field is = refl
lowers Algorithm field is = refl
lowers CertificateType field is = refl
lowers Time field is = refl
lowers Salt field is = refl
lowers Hash field is = refl
lowers Types field is = refl
lowers Parameters field is = refl
lowers Location field is = refl
lowers Eui48 field is = refl
lowers Eui64 field is = refl

-- a field in canonical form is one of the same kind
abbrev Stays : Form → Field → Type 0
Stays form field = IsField (lowered_as form field) × (kind_of (lowered_as form field) ≡ kind_of_form form)

stays : (form : Form) (field : Field) → IsFieldOf form field → Stays form field
stays Number8 field is = (is.is_field, is.kind)
stays Number16 field is = (is.is_field, is.kind)
stays Number32 field is = (is.is_field, is.kind)
stays Name field is =
    of_uncompressed (λ f. IsField f → Stays Name f) field (λ name is_name. (low_name name is_name, refl)) is.kind is.is_field
stays CasedName field is = (is.is_field, is.kind)
stays String field is = (is.is_field, is.kind)
stays RestText field is = (is.is_field, is.kind)
stays Rest16 field is = (is.is_field, is.kind)
stays Rest64 field is = (is.is_field, is.kind)
stays RtypeForm field is = (is.is_field, is.kind)
stays Algorithm field is = (is.is_field, is.kind)
stays CertificateType field is = (is.is_field, is.kind)
stays Time field is = (is.is_field, is.kind)
stays Salt field is = (is.is_field, is.kind)
stays Hash field is = (is.is_field, is.kind)
stays Types field is = (is.is_field, is.kind)
stays Parameters field is = (is.is_field, is.kind)
stays Location field is = (is.is_field, is.kind)
stays Eui48 field is = (is.is_field, is.kind)
stays Eui64 field is = (is.is_field, is.kind)

-- what begins none of the other decides how they compare, or is the same
seam : (text other : List ℕ) → ((more : List ℕ) → other ≡ text ++ more → more ≡ []) → ((more : List ℕ) → text ≡ other ++ more → more ≡ [])
    → (behind beyond : List ℕ) → slice_cmp nat_cmp (text ++ behind) (other ++ beyond)
    ≡ ordering_then (slice_cmp nat_cmp text other) (slice_cmp nat_cmp behind beyond)
seam [] [] only only' behind beyond = refl
seam [] (m ∷ other) only only' behind beyond = absurd (let none = only (m ∷ other) refl in cc)
seam (n ∷ text) [] only only' behind beyond = absurd (let none = only' (n ∷ text) refl in cc)
seam (n ∷ text) (m ∷ other) only only' behind beyond =
    head_seam (nat_cmp n m) _ _ (slice_cmp nat_cmp behind beyond)
    (λ level. let one = same n m level in
    seam text other (λ more is. only more (λ i. sym one i ∷ is i)) (λ more is. only' more (λ i. one i ∷ is i)) behind beyond)

none_long : (l : List ℕ) → length l ≡ 0 → l ≡ []
none_long [] is = refl
none_long (n ∷ l) is = absurd (omega (arith, is))

-- no field in canonical form begins another one of its form
no_front : (form : Form) (field other : Field) → IsFieldOf form field → IsFieldOf form other → is_last form ≡ false → (more : List ℕ)
    → field_octets (lowered_as form other) ≡ field_octets (lowered_as form field) ++ more → more ≡ []
no_front form field other is is' last more are =
    let one = stays form field is in
    let two = stays form other is' in
    let text = field_octets (lowered_as form field) in
    let text' = field_octets (lowered_as form other) in
    let not_last : ends.is_last (kind_of_form form) ≡ false = ends_alike form ∙ last in
    let long : len_in (kind_of_form form) (text ++ more) ≡ length text =
    ap (λ k. len_in k (text ++ more)) (sym one.1) ∙ field_long (lowered_as form field) more one.0 (ap ends.is_last one.1 ∙ not_last) in
    let long' : len_in (kind_of_form form) text' ≡ length text' =
    (λ i. len_in (sym two.1 i) (sym (append-nil text') i)) ∙ field_long (lowered_as form other) [] two.0 (ap ends.is_last two.1 ∙ not_last) in
    let level : length text ≡ length text' = sym long ∙ ap (len_in (kind_of_form form)) (sym are) ∙ long' in
    none_long more (omega (arith, level, ap (length {A = ℕ}) are, length-append text more))

then_equal : (o : Ordering) → ordering_then o Equal ≡ o
then_equal Less = refl
then_equal Equal = refl
then_equal Greater = refl

-- two fields of a form, with what is behind each
fields_seam : (form : Form) (field other : Field) (whole whole' rest rest' behind beyond : List ℕ) → StandsIn form whole field rest
    → StandsIn form whole' other rest' → (is_last form ≡ true → (behind ≡ []) × (beyond ≡ []))
    → slice_cmp nat_cmp (field_octets (lowered_as form field) ++ behind) (field_octets (lowered_as form other) ++ beyond)
    ≡ ordering_then (slice_cmp nat_cmp (field_octets (lowered_as form field)) (field_octets (lowered_as form other))) (slice_cmp nat_cmp behind beyond)
fields_seam form field other whole whole' rest rest' behind beyond one two ended = by (is_last form) refl
  where
    text : List ℕ
    text = field_octets (lowered_as form field)

    text' : List ℕ
    text' = field_octets (lowered_as form other)

    by : (last : Bool) → is_last form ≡ last
        → slice_cmp nat_cmp (text ++ behind) (text' ++ beyond) ≡ ordering_then (slice_cmp nat_cmp text text') (slice_cmp nat_cmp behind beyond)
    by true last =
        let none = ended last in
        (λ i. slice_cmp nat_cmp (text ++ none.0 i) (text' ++ none.1 i))
        ∙ (λ i. slice_cmp nat_cmp (append-nil text i) (append-nil text' i))
        ∙ sym ((λ i. ordering_then (slice_cmp nat_cmp text text') (slice_cmp nat_cmp (none.0 i) (none.1 i))) ∙ then_equal (slice_cmp nat_cmp text text'))
    by false last =
        seam text text' (no_front form field other one.is two.is last) (no_front form other field two.is one.is last) behind beyond

-- the first field of octets, cut off, and what is behind it
pub record Cut (forms left : List Form) (form : Form) (whole first behind : List ℕ) : Type 0 where
  pub field : Field
  pub stands : StandsIn form whole field behind
  pub first_is : first ≡ field_octets field
  pub others : StandAs left behind
  pub read_is : fields_read forms whole ≡ field ∷ fields_read left behind
  pub lowered_is : lowered_octets forms whole ≡ field_octets (lowered_as form field) ++ lowered_octets left behind
  pub none : is_last form ≡ true → lowered_octets left behind ≡ []

no_others : (form : Form) (left : List Form) (behind : List ℕ) → EndWell (form ∷ left) → is_last form ≡ true → lowered_octets left behind ≡ []
no_others form [] behind well last = refl
no_others form (other ∷ left) behind well last = absurd (let no = well.0 in cc)

pub cut_off : {forms left : List Form} {form : Form} {whole first after : List ℕ} {count : ℕ} → forms ≡ form ∷ left → EndWell forms
    → StandAs forms whole → ((field : Field) (rest : List ℕ) → StandsIn form whole field rest → count ≡ length (field_octets field))
    → first ≡ take count whole → after ≡ drop count whole → Cut forms left form whole first after
cut_off {forms} {left} {form} {whole} {first} {after} {count} is well row len front back =
    let well' : EndWell (form ∷ left) = subst EndWell is well in
    let its = parted form left whole well' (subst (λ (l : List Form). StandAs l whole) is row) in
    let long : count ≡ length (field_octets its.field) = len its.field its.rest its.stands in
    let rest_is : its.rest ≡ after =
    sym (back ∙ (λ i. drop (long i) (its.stands.written i)) ∙ drop-append_seam (field_octets its.field) its.rest) in
    let stands : StandsIn form whole its.field after = subst (λ (l : List ℕ). StandsIn form whole its.field l) rest_is its.stands in
    record {
      field = its.field;
      stands = stands;
      first_is = front ∙ (λ i. take (long i) (its.stands.written i)) ∙ take-append_seam (field_octets its.field) its.rest;
      others = subst (StandAs left) rest_is its.others;
      read_is = read_first is well stands row;
      lowered_is = lowered_first is well stands row;
      none = no_others form left after well';
    }

-- data compares as its first fields do, or else as what is behind them
pub compared : {forms left : List Form} {form : Form} {whole first behind whole' first' behind' : List ℕ} {order : Ordering}
    → Cut forms left form whole first behind → Cut forms left form whole' first' behind'
    → order ≡ slice_cmp nat_cmp (form_lowered form first) (form_lowered form first')
    → slice_cmp nat_cmp (lowered_octets forms whole) (lowered_octets forms whole')
    ≡ ordering_then order (slice_cmp nat_cmp (lowered_octets left behind) (lowered_octets left behind'))
compared {forms} {left} {form} {whole} {first} {behind} {whole'} {first'} {behind'} {order} one two is =
    let low : field_octets (lowered_as form one.field) ≡ form_lowered form first =
    lowers form one.field one.stands.is ∙ ap (form_lowered form) (sym one.first_is) in
    let low' : field_octets (lowered_as form two.field) ≡ form_lowered form first' =
    lowers form two.field two.stands.is ∙ ap (form_lowered form) (sym two.first_is) in
    (λ i. slice_cmp nat_cmp (one.lowered_is i) (two.lowered_is i))
    ∙ fields_seam form one.field two.field whole whole' behind behind' (lowered_octets left behind) (lowered_octets left behind') one.stands two.stands
    (λ last. (one.none last, two.none last))
    ∙ ap (λ (o : Ordering). ordering_then o (slice_cmp nat_cmp (lowered_octets left behind) (lowered_octets left behind')))
    ((λ i. slice_cmp nat_cmp (low i) (low' i)) ∙ sym is)

pub decided : {order found whole : Ordering} (rest : Ordering) → whole ≡ ordering_then order rest → order ≡ found → whole ≡ ordering_then found rest
decided rest is same = is ∙ ap (λ (o : Ordering). ordering_then o rest) same
