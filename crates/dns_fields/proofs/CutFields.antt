-- Octets end too early for no field that is in them.
use Rattle.std.proofs.Common.{◌≡◌, ◌+◌, ◌-◌, ◌↔◌, ℕ, List, [], ◌∷◌, length, inl, inr, refl, subst, arith}
use Rattle.std.specs.Prelude.{Ok, IsErrOf}
use Rattle.dns_label.specs.Spelled as names
use Rattle.dns_label.specs.Spelled.{DecodesName}
use Rattle.dns_name.specs.Cut.{IsCut}
use Rattle.dns_name.proofs.Cuts.{cut-root, cut-behind, cut-led_on}
use Rattle.dns_fields.specs.Fields.{Kind, Field, kind_of}
use Rattle.dns_fields.specs.Reading.{ReadsField, NoField, IsCutField, AreCutFields}

cut_spelled : {message : List ℕ} {pointers room place next : ℕ} {name : List (List ℕ)} → IsCut message pointers room place
    → names.EncodesName message pointers place name next → ⊥
cut_spelled cut (names.root rest at) = cut-root rest cut at
cut_spelled {message} {pointers} {room} {place} cut (names.label {label = text} rest at is_label parent) =
    let behind = (cut-behind text rest (length text + 1) cut (record { spelled = at; short = is_label.short }) is_label.some refl).1 in
    let e : place + (length text + 1) ≡ place + 1 + length text = omega arith in
    let P : ℕ → Type 0 = λ p. IsCut message pointers (room - (length text + 1)) p in
    cut_spelled (subst P e behind) parent
cut_spelled cut (names.pointer first second after rest at both back name) =
    cut_spelled (cut-led_on _ _ cut (record { first = first; second = second; rest = rest; spelled = at; both_bits = both; is = refl }) refl) name

-- a name that is read, and a field of another kind
pub name_whole : {message : List ℕ} {place next : ℕ} {name : List (List ℕ)} {T E : Type 0} {value : T} {error : E} → DecodesName message place name next
    → IsErrOf (Ok value) error ↔ IsCut message 255 254 place
name_whole reads = (λ other. absurd (cc), λ cut. absurd (cut_spelled cut reads.spelled))

pub field_whole : {message : List ℕ} {place next : ℕ} {field : Field} {T E : Type 0} {value : T} {error : E} → ReadsField message place field next
    → IsErrOf (Ok value) error ↔ NoField message place (kind_of field)
field_whole {next = next} {field} reads = (λ other. absurd (cc), λ none. absurd (none field next refl reads))

-- a row of one field
pub row_whole : {message : List ℕ} {place : ℕ} {its : Kind} {T E : Type 0} {value : T} {error : E} → (IsCutField message place its → ⊥)
    → IsErrOf (Ok value) error ↔ AreCutFields message place (its ∷ [])
row_whole {message} {place} {its} whole = (λ other. absurd (cc), λ cut. absurd (by cut))
  where
    by : AreCutFields message place (its ∷ []) → ⊥
    by (inl cut) = whole cut
    by (inr (field, next, same, reads, none)) = none
