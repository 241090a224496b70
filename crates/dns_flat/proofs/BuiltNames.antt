-- Names made of what is built, and whole names appended to it.
use Rattle.std.proofs.Common.{◌≡◌, ℕ, ◌+◌, ◌≤◌, List, ◌++◌, length, refl, sym, ◌∙◌, ap, subst, arith, append-nil, length-append}
use Rattle.std.specs.Prelude.{Option, None}
use Rattle.std.specs.List.{AllByRecursion}
use Rattle.dns_label.specs.Name.{IsLabel, IsName, wire, labels_wire}
use Rattle.dns_wire.specs.Built.{Built, StandsFor, labels_built, built_len, labels_ended, with_labels}
use Rattle.dns_flat.proofs.Chains.{joined_name, length-labels_wire-append}
use Rattle.dns_wire.proofs.FlatForms.{wire-append}
use Rattle.dns_wire.proofs.Wire.{labels_wire-append, length-wire_is}

-- what a contract sees is what the octets stand for
pub stands_seen : {octets : List ℕ} {head : Option ℕ} {view built : Built} → view ≡ built → StandsFor octets head view → StandsFor octets head built
stands_seen {octets = octets} {head = head} is stands = let P : Built → Type 0 = λ b. StandsFor octets head b in subst P is stands

-- what is built is a relative name
pub built_name : {octets : List ℕ} {head : Option ℕ} {built : Built} → StandsFor octets head built → IsName (labels_built built)
built_name {built = built} stands = record {
  labels = stands.each;
  short = omega (arith, stands.few, ap (length {A = ℕ}) stands.whole, length-wire_is (labels_built built));
}

-- a relative name is finished labels
pub stands_whole : {octets : List ℕ} (labels : List (List ℕ)) → IsName labels → octets ≡ labels_wire labels → StandsFor octets None (labels_ended labels)
stands_whole labels is_name is =
    let P : List (List ℕ) → Type 0 = λ l. AllByRecursion IsLabel l in
    record {
      each = subst P (sym (append-nil labels)) is_name.labels;
      whole = is ∙ ap labels_wire (sym (append-nil labels));
      few = omega (arith, is_name.short, length-wire_is labels, ap (length {A = ℕ}) is);
      place = refl;
    }

-- with the labels of a relative name appended
pub with_labels_len : (built : Built) (labels : List (List ℕ)) → built_len (with_labels built labels) ≡ built_len built + length (labels_wire labels)
with_labels_len built labels =
    ap (λ (l : List (List ℕ)). length (labels_wire l)) (append-nil (labels_built built ++ labels)) ∙ length-labels_wire-append (labels_built built) labels

pub stands_joined : {octets new : List ℕ} {head : Option ℕ} {built : Built} (labels : List (List ℕ)) → StandsFor octets head built → IsName labels
    → new ≡ octets ++ labels_wire labels → built_len built + length (labels_wire labels) ≤ 254 → StandsFor new None (with_labels built labels)
stands_joined {built = built} labels stands is_name is few =
    let all = joined_name (labels_built built) labels (built_name stands) is_name (omega (arith, few, length-wire_is labels)) in
    stands_whole (labels_built built ++ labels) all
    (is ∙ ap (λ o. o ++ labels_wire labels) stands.whole ∙ sym (labels_wire-append (labels_built built) labels))

-- with the labels of an absolute name appended
pub origin_len : (built : Built) (origin : List (List ℕ)) → length (wire (labels_built built ++ origin)) ≡ built_len built + length (wire origin)
origin_len built origin =
    ap (length {A = ℕ}) (wire-append (labels_built built) origin) ∙ length-append (labels_wire (labels_built built)) (wire origin)

pub origin_wire : {octets whole : List ℕ} {head : Option ℕ} {built : Built} (origin : List (List ℕ)) → StandsFor octets head built
    → whole ≡ octets ++ wire origin → whole ≡ wire (labels_built built ++ origin)
origin_wire {built = built} origin stands is =
    is ∙ ap (λ o. o ++ wire origin) stands.whole ∙ sym (wire-append (labels_built built) origin)

pub origin_name : {octets : List ℕ} {head : Option ℕ} {built : Built} (origin : List (List ℕ)) → StandsFor octets head built → IsName origin
    → built_len built + length (wire origin) ≤ 255 → IsName (labels_built built ++ origin)
origin_name {built = built} origin stands is_name few = joined_name (labels_built built) origin (built_name stands) is_name few
