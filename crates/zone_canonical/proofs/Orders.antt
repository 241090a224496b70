-- Records in canonical form are compared part by part, and entries by key first.
use Rattle.std.proofs.Common.{◌≡◌, ◌<◌, ℕ, Bool, true, false, nat_eq, List, refl, sym, ap, ◌∙◌}
use Rattle.std.specs.Prelude.{reverse}
use Rattle.std.specs.Cmp.Lexicographic.{slice_cmp}
use Rattle.std.specs.Cmp.{unsigned_tied}
use Rattle.std.specs.Ordering.{nat_cmp, ordering_then, ordering_reverse, is_eq, eq_by_cmp}
use Rattle.std.specs.declared.cmp.Ordering.{Ordering}
use Rattle.std.specs.declared.cmp.Ordering.TheVariants.{Less, Equal, Greater}
use Rattle.std.proofs.lemmas.Cmp.{ranked}
use Rattle.dns_label.specs.Name.{low}
use Rattle.dns_wire.specs.Order.{labels_order}
use Rattle.dns_wire.proofs.Orders.{then_assoc}
use Rattle.zone_records.specs.Record.{Record}
use Rattle.zone_canonical.specs.Canonical.{canonical_cmp}
use Rattle.zone_canonical.specs.CanonicalLaws.{canonical_total}
use Rattle.zone_canonical.specs.DataForm.{data_form}
use Rattle.zone_canonical.specs.Form.{form_of}
use Rattle.zone_canonical.specs.Keyed.{Keyed, keyed_cmp, tagged}
use Rattle.zone_canonical.specs.OwnerKey.{key_from, key_of}
use Rattle.zone_canonical.proofs.Forms.{low-low, both_tie, number_tie}
use Rattle.zone_canonical.proofs.KeyOrder.{key_order}

-- names in lower case have the order of the names
order_low : (name other : List (List ℕ)) → labels_order name other ≡ labels_order (low name) (low other)
order_low name other = λ i. slice_cmp (slice_cmp nat_cmp) (reverse (sym (low-low name) i)) (reverse (sym (low-low other) i))

first_apart : (first rest : Ordering) → (first ≡ Equal → ⊥) → first ≡ ordering_then first rest
first_apart Less rest apart = refl
first_apart Equal rest apart = absurd (apart refl)
first_apart Greater rest apart = refl

-- what decides if owners and types are equal
abbrev rest_cmp : Record → Record → Ordering
rest_cmp one other =
    ordering_then (slice_cmp nat_cmp one.rdata other.rdata) (ordering_then (nat_cmp one.ttl other.ttl) (nat_cmp one.class other.class))

in_two : (one other : Record)
    → ordering_then (ordering_then (labels_order one.owner other.owner) (nat_cmp one.rtype other.rtype)) (rest_cmp (form_of one) (form_of other))
    ≡ canonical_cmp (form_of one) (form_of other)
unfolding canonical_cmp
in_two one other =
    then_assoc (labels_order one.owner other.owner) (nat_cmp one.rtype other.rtype) (rest_cmp (form_of one) (form_of other))
    ∙ ap (λ o. ordering_then o (ordering_then (nat_cmp one.rtype other.rtype) (rest_cmp (form_of one) (form_of other)))) (order_low one.owner other.owner)

-- by owners and types, if these differ
pub by_front : (one other : Record) (first : Ordering) → (first ≡ Equal → ⊥)
    → first ≡ ordering_then (labels_order one.owner other.owner) (nat_cmp one.rtype other.rtype) → first ≡ canonical_cmp (form_of one) (form_of other)
by_front one other first apart is =
    first_apart first (rest_cmp (form_of one) (form_of other)) apart
    ∙ ap (λ o. ordering_then o (rest_cmp (form_of one) (form_of other))) is ∙ in_two one other

-- if owners and types are level, the types are one
pub types_level : (one other : Record) (first : Ordering) → first ≡ Equal
    → first ≡ ordering_then (labels_order one.owner other.owner) (nat_cmp one.rtype other.rtype) → one.rtype ≡ other.rtype
types_level one other first tied is =
    number_tie one.rtype other.rtype
    (both_tie (labels_order one.owner other.owner) (nat_cmp one.rtype other.rtype) (ap is_eq (sym is ∙ tied))).1

-- and else by what follows them
pub by_rest : (one other : Record) (first rdata ttl class fixed whole : Ordering) → first ≡ Equal
    → first ≡ ordering_then (labels_order one.owner other.owner) (nat_cmp one.rtype other.rtype)
    → rdata ≡ slice_cmp nat_cmp (data_form one.rtype one.rdata) (data_form other.rtype other.rdata) → ttl ≡ nat_cmp one.ttl other.ttl
    → class ≡ nat_cmp one.class other.class → fixed ≡ ordering_then ttl class → whole ≡ ordering_then rdata fixed
    → whole ≡ canonical_cmp (form_of one) (form_of other)
by_rest one other first rdata ttl class fixed whole tied is rdata_is ttl_is class_is fixed_is whole_is =
    let rest : whole ≡ rest_cmp (form_of one) (form_of other) =
    whole_is
    ∙ (λ i. ordering_then (rdata_is i) (fixed_is i))
    ∙ (λ i. ordering_then (slice_cmp nat_cmp (data_form one.rtype one.rdata) (data_form other.rtype other.rdata)) (ordering_then (ttl_is i) (class_is i))) in
    rest ∙ ap (λ o. ordering_then o (rest_cmp (form_of one) (form_of other))) (sym tied ∙ is) ∙ in_two one other

-- by keys, if these differ
pub by_key : (one other : Keyed) (first : Ordering) → (first ≡ Equal → ⊥) → first ≡ nat_cmp one.key other.key → first ≡ keyed_cmp one other
unfolding keyed_cmp
by_key one other first apart is =
    first_apart first (canonical_cmp one.form other.form) apart ∙ ap (λ o. ordering_then o (canonical_cmp one.form other.form)) is

-- and else by form
pub by_form : (one other : Keyed) (first whole : Ordering) → first ≡ Equal → first ≡ nat_cmp one.key other.key
    → whole ≡ canonical_cmp one.form other.form → whole ≡ keyed_cmp one other
unfolding keyed_cmp
by_form one other first whole tied is whole_is =
    whole_is ∙ ap (λ o. ordering_then o (canonical_cmp one.form other.form)) (sym tied ∙ is)

owner_first : (one other : Record) → labels_order one.owner other.owner ≡ Less → canonical_cmp one other ≡ Less
unfolding canonical_cmp
owner_first one other less = ap (λ o. ordering_then o (ordering_then (nat_cmp one.rtype other.rtype) (rest_cmp one other))) less

key_first : (apex : List (List ℕ)) (one other : Record) → key_of apex one.owner < key_of apex other.owner → canonical_cmp one other ≡ Less
key_first apex one other less =
    owner_first one other (key_order (reverse (low apex)) (reverse (low one.owner)) (reverse (low other.owner)) less)

-- keys of owners leave the order of forms as it is
pub tagged_order : (apex : List (List ℕ)) (one other : Record) → keyed_cmp (tagged apex one) (tagged apex other) ≡ canonical_cmp one other
unfolding keyed_cmp
tagged_order apex one other =
    let k = key_of apex one.owner in
    let l = key_of apex other.owner in
    let forms = canonical_cmp one other in
    elim (nat_cmp k l) as (λ o. o ≡ nat_cmp k l → ordering_then o forms ≡ forms) [
      | Less ↦ λ e. sym (key_first apex one other (ranked k l Less e))
      | Equal ↦ λ e. refl
      | Greater ↦ λ e. sym (canonical_total.antisymm one other ∙ ap ordering_reverse (key_first apex other one (ranked k l Greater e)))
    ] refl

-- the key of an owner in lower case is the owner's
pub key_low : (apex owner : List (List ℕ)) → key_of apex (low owner) ≡ key_of apex owner
key_low apex owner = ap (λ l. key_from (reverse (low apex)) (reverse l)) (low-low owner)

first_unlike : (first rest : Ordering) → is_eq first ≡ false → false ≡ is_eq (ordering_then first rest)
first_unlike Less rest unlike = refl
first_unlike Equal rest unlike = absurd (let e : true ≡ false = unlike in cc)
first_unlike Greater rest unlike = refl

-- entries with different keys are not equal
pub unlike_keys : (one other : Keyed) (same : Bool) → same ≡ false → same ≡ nat_eq one.key other.key → same ≡ eq_by_cmp keyed_cmp one other
unfolding keyed_cmp
unlike_keys one other same unlike is =
    unlike
    ∙ first_unlike (nat_cmp one.key other.key) (canonical_cmp one.form other.form) (unsigned_tied one.key other.key ∙ sym is ∙ unlike)
