-- Fields in octets, and their canonical form there.
use Rattle.std.proofs.Common.{◌≡◌, ◌+◌, ◌≤◌, ℕ, min, Bool, true, false, List, [], ◌∷◌, ◌++◌, length, take, drop, map, refl, sym, ◌∙◌, ap, subst, arith, append_assoc, append-nil, length-append}
use Rattle.std.specs.Prelude.{if◌then◌else◌}
use Rattle.std.specs.Char.{to_ascii_lowercase}
use Rattle.std.specs.declared.cmp.Ordering.{Ordering}
use Rattle.std.specs.declared.cmp.Ordering.TheVariants.{Less, Equal, Greater}
use Rattle.std.specs.Ordering.{ordering_then, nat_cmp}
use Rattle.std.specs.Cmp.Lexicographic.{slice_cmp}
use Rattle.std.specs.List.{AllByRecursion}
use Rattle.std.proofs.Math.Seq.{take-append_seam, drop-append_seam}
use Rattle.dns_label.specs.Labels.{labels_at}
use Rattle.dns_label.specs.Name.{IsName, wire}
use Rattle.dns_label.specs.Spelled.{EncodesName, DecodesName}
use Rattle.dns_label.proofs.Spelling.{labels_at-reads, reads_one, spelled-written}
use Rattle.dns_wire.proofs.Case.{low_wire}
use Rattle.dns_wire.proofs.LowNames.{low_name}
use Rattle.dns_fields.specs.Fields.{Kind, Strings, RestText, Rest16, Rest64, Field, kind_of, field_octets, lowered, IsField, octets, canonical_octets}
use Rattle.dns_fields.specs.Fields.{number8, number16, number32, ipv4, ipv6, compressible, uncompressed, string, strings, tag, rest_text, rest16, rest64}
use Rattle.dns_fields.specs.OctetsForm.{StartsWithField, AreFields, is_name, is_last, len_in, form_of_kind}
use Rattle.dns_fields.proofs.NameOctets.{head_seam, same}

-- a name is read where it is written in full
pub name_decoded : (whole : List ℕ) (name : List (List ℕ)) (rest : List ℕ) → IsName name → whole ≡ wire name ++ rest
    → DecodesName whole 0 name (length (wire name))
name_decoded whole name rest is at =
    let next : 0 + length (wire name) ≡ length (wire name) = omega arith in
    record { spelled = subst (λ n. EncodesName whole 255 0 name n) next (spelled-written whole 255 0 name rest at is.labels); is_name = is }

name_long : (name : List (List ℕ)) (rest : List ℕ) → IsName name → length (wire (labels_at (wire name ++ rest) 0)) ≡ length (wire name)
name_long name rest is = ap (λ (n : List (List ℕ)). length (wire n)) (labels_at-reads (name_decoded (wire name ++ rest) name rest is refl))

-- a reader stops behind the name that the octets begin with, and finds one
pub name_ends : (whole read : List ℕ) (place next : ℕ) (name found : List (List ℕ)) (rest : List ℕ) → read ≡ whole → place ≡ 0 → IsName name
    → whole ≡ wire name ++ rest → DecodesName read place found next → next ≡ length (wire (labels_at whole 0))
name_ends whole read place next name found rest same_octets at_first is at reads =
    let reads' = subst (λ n. DecodesName whole n found next) at_first (subst (λ l. DecodesName l place found next) same_octets reads) in
    let written = name_decoded whole name rest is at in
    (reads_one reads' written).1 ∙ ap (λ (n : List (List ℕ)). length (wire n)) (sym (labels_at-reads written))

pub name_found : (whole read : List ℕ) (place : ℕ) (name : List (List ℕ)) (rest : List ℕ) → read ≡ whole → place ≡ 0 → IsName name
    → whole ≡ wire name ++ rest → DecodesName read place name (length (wire name))
name_found whole read place name rest same_octets at_first is at =
    subst (λ l. DecodesName l place name (length (wire name))) (sym same_octets)
    (subst (λ n. DecodesName whole n name (length (wire name))) (sym at_first) (name_decoded whole name rest is at))

-- octets that begin with the field are as long as it
pub field_long : (field : Field) (rest : List ℕ) → IsField field → is_last (kind_of field) ≡ false
    → len_in (kind_of field) (field_octets field ++ rest) ≡ length (field_octets field)
field_long (number8 n) rest is ends = refl
field_long (number16 n) rest is ends = refl
field_long (number32 n) rest is ends = refl
field_long (ipv4 text) rest is ends = sym is
field_long (ipv6 text) rest is ends = sym is
field_long (compressible name) rest is ends = name_long name rest is
field_long (uncompressed name) rest is ends = name_long name rest is
field_long (string text) rest is ends = omega arith
field_long (tag text) rest is ends = omega arith
field_long (strings each) rest is ends = absurd (cc)
field_long (rest_text text) rest is ends = absurd (cc)
field_long (rest16 text) rest is ends = absurd (cc)
field_long (rest64 text) rest is ends = absurd (cc)

-- all octets that are left
pub last_long : (kind : Kind) (whole : List ℕ) → is_last kind ≡ true → len_in kind whole ≡ length whole
last_long Strings whole last = refl
last_long RestText whole last = refl
last_long Rest16 whole last = refl
last_long Rest64 whole last = refl
last_long kind whole last = absurd (cc)

pub starts_long : {whole rest : List ℕ} {kind : Kind} {field : Field} → StartsWithField whole kind field rest → is_last kind ≡ false
    → len_in kind whole ≡ length (field_octets field)
starts_long {whole} {rest} {kind} {field} starts ends =
    (λ i. len_in (sym starts.is_kind i) (starts.written i)) ∙ field_long field rest starts.is_field (ap is_last starts.is_kind ∙ ends)

-- a name lowered is its octets in lower case, and any other field is the same
pub lowered_form : (field : Field) → IsField field → field_octets (lowered field) ≡ form_of_kind (kind_of field) (field_octets field)
lowered_form (compressible name) is = sym (low_wire name is.labels)
lowered_form (uncompressed name) is = sym (low_wire name is.labels)
lowered_form field is = refl

lowered_field : (field : Field) → IsField field → IsField (lowered field) × (kind_of (lowered field) ≡ kind_of field)
lowered_field (compressible name) is = (low_name name is, refl)
lowered_field (uncompressed name) is = (low_name name is, refl)
lowered_field field is = (is, refl)

pub starts_form : {whole rest : List ℕ} {kind : Kind} {field : Field} → StartsWithField whole kind field rest
    → field_octets (lowered field) ≡ form_of_kind kind (field_octets field)
starts_form {whole} {rest} {kind} {field} starts =
    lowered_form field starts.is_field ∙ ap (λ k. form_of_kind k (field_octets field)) starts.is_kind

-- the first field of a row, and those after it
pub record Parts (whole : List ℕ) (kind : Kind) (kinds : List Kind) (row : List Field) : Type 0 where
  pub first : Field
  pub others : List Field
  pub is : row ≡ first ∷ others
  pub starts : StartsWithField whole kind first (octets others)
  pub left : AreFields (octets others) kinds others

pub parts : {whole : List ℕ} {kind : Kind} {kinds : List Kind} (row : List Field) → AreFields whole (kind ∷ kinds) row → Parts whole kind kinds row
parts [] are = absurd (let e = are.are_kinds in cc)
parts (field ∷ row) are = record {
  first = field;
  others = row;
  is = refl;
  starts = record { is_kind = let e = are.are_kinds in cc; is_field = are.each.0; written = are.written };
  left = record { are_kinds = let e = are.are_kinds in cc; each = are.each.1; written = refl };
}

-- the octets of its first field, and those behind them
pub record Cut (text behind : List ℕ) (kind : Kind) (kinds : List Kind) (row : List Field) : Type 0 where
  pub first : Field
  pub others : List Field
  pub is : row ≡ first ∷ others
  pub starts : StartsWithField text kind first []
  pub left : AreFields behind kinds others

pub cut : {whole text behind : List ℕ} {kind : Kind} {kinds : List Kind} {len count : ℕ} (row : List Field) → AreFields whole (kind ∷ kinds) row
    → is_last kind ≡ false → ((field : Field) (rest : List ℕ) → StartsWithField whole kind field rest → len ≡ len_in kind whole)
    → count ≡ min len (length whole) → text ≡ take count whole → behind ≡ drop count whole → Cut text behind kind kinds row
cut {whole} {kind = kind} {kinds = kinds} {len = len} {count = count} row are ends found least front back =
    let its = parts row are in
    let field = field_octets its.first in
    let long : len ≡ length field = found its.first (octets its.others) its.starts ∙ starts_long its.starts ends in
    let all : count ≡ length field =
    omega (arith, least, long, ap (length {A = ℕ}) its.starts.written, length-append field (octets its.others)) in
    record {
      first = its.first;
      others = its.others;
      is = its.is;
      starts = record {
        is_kind = its.starts.is_kind;
        is_field = its.starts.is_field;
        written = front ∙ (λ i. take (all i) (its.starts.written i)) ∙ take-append_seam field (octets its.others) ∙ sym (append-nil field);
      };
      left = subst (λ l. AreFields l kinds its.others)
          (sym (back ∙ (λ i. drop (all i) (its.starts.written i)) ∙ drop-append_seam field (octets its.others))) its.left;
    }

-- the canonical form of the first field by its octets
cut_form : {text behind : List ℕ} {kind : Kind} {kinds : List Kind} {row : List Field} (its : Cut text behind kind kinds row)
    → field_octets (lowered its.first) ≡ form_of_kind kind text
cut_form {kind = kind} its = starts_form its.starts ∙ ap (form_of_kind kind) (sym (its.starts.written ∙ append-nil (field_octets its.first)))

-- a row without fields, and one of a field that is no name
pub none_form : {whole : List ℕ} (row : List Field) → AreFields whole [] row → whole ≡ canonical_octets row
none_form [] are = are.written
none_form (field ∷ row) are = absurd (let e = are.are_kinds in cc)

plain_form : (kind : Kind) (text : List ℕ) → is_name kind ≡ false → form_of_kind kind text ≡ text
plain_form kind text plain = ap (λ (named : Bool). if named then map to_ascii_lowercase text else text) plain

pub last_form : {whole : List ℕ} {kind : Kind} (row : List Field) → is_name kind ≡ false → AreFields whole (kind ∷ []) row
    → whole ≡ canonical_octets row
last_form {whole} {kind} row plain are =
    let its = parts row are in
    its.starts.written
    ∙ (λ i. sym (starts_form its.starts ∙ plain_form kind (field_octets its.first) plain) i ++ none_form its.others its.left i)
    ∙ ap canonical_octets (sym its.is)

-- the first field in canonical form before the others
pub made : {text behind form forms : List ℕ} {kind : Kind} {kinds : List Kind} {row : List Field} (its : Cut text behind kind kinds row)
    → form ≡ form_of_kind kind text → forms ≡ canonical_octets its.others → form ++ forms ≡ canonical_octets row
made its is are = (λ i. (is ∙ sym (cut_form its)) i ++ are i) ∙ ap canonical_octets (sym its.is)

-- what begins none of the other decides how they compare, or is the same
seam : (text other : List ℕ) → ((more : List ℕ) → other ≡ text ++ more → more ≡ []) → ((more : List ℕ) → text ≡ other ++ more → more ≡ [])
    → (behind beyond : List ℕ) → slice_cmp nat_cmp (text ++ behind) (other ++ beyond)
    ≡ ordering_then (slice_cmp nat_cmp text other) (slice_cmp nat_cmp behind beyond)
seam [] [] only only' behind beyond = refl
seam [] (m ∷ other) only only' behind beyond = absurd (let none = only (m ∷ other) refl in cc)
seam (n ∷ text) [] only only' behind beyond = absurd (let none = only' (n ∷ text) refl in cc)
seam (n ∷ text) (m ∷ other) only only' behind beyond =
    head_seam (nat_cmp n m) _ _ (slice_cmp nat_cmp behind beyond)
    (λ level. let one = same n m level in
    seam text other (λ more is. only more (λ i. sym one i ∷ is i)) (λ more is. only' more (λ i. one i ∷ is i)) behind beyond)

-- no field in canonical form begins another one of its kind
no_front : (field other : Field) → IsField field → IsField other → kind_of field ≡ kind_of other → is_last (kind_of field) ≡ false
    → (more : List ℕ) → field_octets (lowered other) ≡ field_octets (lowered field) ++ more → more ≡ []
no_front field other is is' kinds ends more are =
    let one = lowered_field field is in
    let two = lowered_field other is' in
    let text = field_octets (lowered field) in
    let text' = field_octets (lowered other) in
    let long : len_in (kind_of field) (text ++ more) ≡ length text =
    ap (λ k. len_in k (text ++ more)) (sym one.1) ∙ field_long (lowered field) more one.0 (ap is_last one.1 ∙ ends) in
    let long' : len_in (kind_of field) text' ≡ length text' =
    (λ i. len_in ((kinds ∙ sym two.1) i) (sym (append-nil text') i))
    ∙ field_long (lowered other) [] two.0 (ap is_last (two.1 ∙ sym kinds) ∙ ends) in
    let level : length text ≡ length text' = sym long ∙ ap (len_in (kind_of field)) (sym are) ∙ long' in
    none more (omega (arith, level, ap (length {A = ℕ}) are, length-append text more))
  where
    none : (l : List ℕ) → length l ≡ 0 → l ≡ []
    none [] is = refl
    none (n ∷ l) is = absurd (omega arith)

module _ {text behind other beyond : List ℕ} {kind : Kind} {kinds : List Kind} {row its : List Field} (one : Cut text behind kind kinds row)
    (two : Cut other beyond kind kinds its) (first : Ordering) (ends : is_last kind ≡ false)
    (is : first ≡ slice_cmp nat_cmp (form_of_kind kind text) (form_of_kind kind other)) where
  -- rows compare as their first fields do, or else as the others
  compared : slice_cmp nat_cmp (canonical_octets row) (canonical_octets its)
      ≡ ordering_then first (slice_cmp nat_cmp (canonical_octets one.others) (canonical_octets two.others))
  compared =
      let level : kind_of one.first ≡ kind_of two.first = one.starts.is_kind ∙ sym two.starts.is_kind in
      let ends' : is_last (kind_of one.first) ≡ false = ap is_last one.starts.is_kind ∙ ends in
      (λ i. slice_cmp nat_cmp (canonical_octets (one.is i)) (canonical_octets (two.is i)))
      ∙ seam (field_octets (lowered one.first)) (field_octets (lowered two.first))
      (no_front one.first two.first one.starts.is_field two.starts.is_field level ends')
      (no_front two.first one.first two.starts.is_field one.starts.is_field (sym level) (ap is_last (sym level) ∙ ends'))
      (canonical_octets one.others) (canonical_octets two.others)
      ∙ ap (λ o. ordering_then o (slice_cmp nat_cmp (canonical_octets one.others) (canonical_octets two.others)))
      ((λ i. slice_cmp nat_cmp (cut_form one i) (cut_form two i)) ∙ sym is)

  pub then_rest : (rest : Ordering) → first ≡ Equal → rest ≡ slice_cmp nat_cmp (canonical_octets one.others) (canonical_octets two.others)
      → rest ≡ slice_cmp nat_cmp (canonical_octets row) (canonical_octets its)
  then_rest rest level rest_is =
      rest_is ∙ sym (compared ∙ ap (λ o. ordering_then o (slice_cmp nat_cmp (canonical_octets one.others) (canonical_octets two.others))) level)

  pub then_first : (first ≡ Equal → ⊥) → first ≡ slice_cmp nat_cmp (canonical_octets row) (canonical_octets its)
  then_first apart = decides first (slice_cmp nat_cmp (canonical_octets one.others) (canonical_octets two.others)) apart ∙ sym compared
    where
      decides : (o rest : Ordering) → (o ≡ Equal → ⊥) → o ≡ ordering_then o rest
      decides Less rest apart = refl
      decides Equal rest apart = absurd (apart refl)
      decides Greater rest apart = refl
