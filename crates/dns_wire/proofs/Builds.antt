-- Octets that hold a name while it is built.
use Rattle.std.proofs.Common.{◌≡◌, ℕ, zero, suc, ◌+◌, ◌<◌, ◌≤◌, List, [], ◌∷◌, ◌++◌, length, take, drop, set, refl, sym, ◌∙◌, ap, subst, arith, append_assoc, append-nil, length-append}
use Rattle.std.specs.Prelude.{Option, Some, None}
use Rattle.std.specs.List.{AllByRecursion}
use Rattle.std.proofs.Math.Seq.{take-append_seam, drop-append_seam}
use Rattle.std.proofs.lemmas.List.{drop-drop}
use Rattle.dns_label.specs.Name.{IsLabel, IsName, wire, labels_wire}
use Rattle.dns_label.specs.Labels.{labels_from, labels_at}
use Rattle.dns_label.specs.Composed.{label_wire}
use Rattle.dns_label.proofs.Spelling.{head_in-label, drop_behind}
use Rattle.dns_wire.specs.Built.{Built, StandsFor, built_of, labels_built, built_len, with_label, ended}
use Rattle.dns_wire.proofs.Wire.{labels_wire-append, length-labels_wire_more, wire_is}
use Rattle.dns_wire.proofs.Drafts.{set_seam, labels_more}

-- labels that follow one another to the end of the octets are found
labels_from-labels : (message : List ℕ) (heads place : ℕ) (labels : List (List ℕ)) → drop place message ≡ labels_wire labels
    → AllByRecursion IsLabel labels → length labels < heads → labels_from heads message place ≡ labels
unfolding labels_from
labels_from-labels message zero place labels at each few = absurd (omega arith)
labels_from-labels message (suc heads) place [] at each few = rw at refl
labels_from-labels message (suc heads) place (text ∷ labels) at each few =
    let behind = drop_behind message place (place + 1 + length text) (length text ∷ text) (labels_wire labels) at (omega arith) in
    let found = labels_from-labels message heads (place + 1 + length text) labels behind each.1 (omega arith) in
    rw (head_in-label (drop place message) text (labels_wire labels) at each.0) (ap (λ more. text ∷ more) found)

few_labels : (labels : List (List ℕ)) → length labels ≤ length (labels_wire labels)
few_labels [] = omega arith
few_labels (text ∷ labels) = let more = few_labels labels in omega (arith, length-append text (labels_wire labels))

decoded : (labels : List (List ℕ)) → AllByRecursion IsLabel labels → length (labels_wire labels) ≤ 254
    → labels_at (labels_wire labels) 0 ≡ labels
unfolding labels_at
decoded labels each few =
    let count = few_labels labels in labels_from-labels (labels_wire labels) 383 0 labels refl each (omega arith)

pub each_front : (front back : List (List ℕ)) → AllByRecursion IsLabel (front ++ back) → AllByRecursion IsLabel front
each_front [] back each = tt
each_front (label ∷ front) back each = (each.0, each_front front back each.1)

pub each_back : (front back : List (List ℕ)) → AllByRecursion IsLabel (front ++ back) → AllByRecursion IsLabel back
each_back [] back each = each
each_back (label ∷ front) back each = each_back front back each.1

-- the open label follows the finished ones
open_wire : (octets : List ℕ) (finished : List (List ℕ)) (text : List ℕ) → octets ≡ labels_wire (finished ++ text ∷ [])
    → octets ≡ labels_wire finished ++ (length text ∷ text)
open_wire octets finished text is =
    is ∙ labels_wire-append finished (text ∷ []) ∙ ap (λ l. labels_wire finished ++ (length text ∷ l)) (append-nil text)

-- what octets hold is what they stand for
stands_finished : (octets : List ℕ) (head : Option ℕ) (finished : List (List ℕ)) (begun : Option (List ℕ))
    → StandsFor octets head (record { finished = finished; begun = begun }) → built_of octets head ≡ record { finished = finished; begun = begun }
stands_finished octets head finished None stands =
    let whole : octets ≡ labels_wire finished = stands.whole ∙ ap labels_wire (append-nil finished) in
    let few : length (labels_wire finished) ≤ 254 = omega (arith, stands.few, ap (length {A = ℕ}) whole) in
    let found : labels_at octets 0 ≡ finished = ap (λ (o : List ℕ). labels_at o 0) whole ∙ decoded finished (each_front finished [] stands.each) few in
    let P : List (List ℕ) → Built = λ l. record { finished = l; begun = None } in
    ap (built_of octets) stands.place ∙ ap P found
stands_finished octets head finished (Some text) stands =
    let whole = open_wire octets finished text stands.whole in
    let p = length (labels_wire finished) in
    let few : p ≤ 254 = omega (arith, stands.few, ap (length {A = ℕ}) whole, length-append (labels_wire finished) (length text ∷ text)) in
    let front : take p octets ≡ labels_wire finished = ap (take p) whole ∙ take-append_seam (labels_wire finished) (length text ∷ text) in
    let behind : drop (p + 1) octets ≡ text =
    sym (drop-drop 1 p octets) ∙ ap (drop 1) (ap (drop p) whole ∙ drop-append_seam (labels_wire finished) (length text ∷ text)) in
    let found : labels_at (take p octets) 0 ≡ finished =
    ap (λ (o : List ℕ). labels_at o 0) front ∙ decoded finished (each_front finished (text ∷ []) stands.each) few in
    let P : List (List ℕ) → Built = λ l. record { finished = l; begun = Some (drop (p + 1) octets) } in
    let Q : List ℕ → Built = λ t. record { finished = finished; begun = Some t } in
    ap (built_of octets) stands.place ∙ ap P found ∙ ap Q behind

pub stands_is : (octets : List ℕ) (head : Option ℕ) (built : Built) → StandsFor octets head built → built_of octets head ≡ built
stands_is octets head built stands = stands_finished octets head built.finished built.begun stands

pub stands_here : (octets : List ℕ) (head : Option ℕ) (built : Built) → StandsFor octets head built → StandsFor octets head (built_of octets head)
stands_here octets head built stands =
    let P : Built → Type 0 = λ b. StandsFor octets head b in subst P (sym (stands_is octets head built stands)) stands

pub stands_nothing : (octets : List ℕ) → octets ≡ [] → StandsFor octets None (record { finished = []; begun = None })
stands_nothing octets none = record {
  each = tt;
  whole = none;
  few = omega (arith, ap (length {A = ℕ}) none);
  place = refl;
}

pub stands_ended : (octets : List ℕ) (head : Option ℕ) (built : Built) → StandsFor octets head built → StandsFor octets None (ended built)
stands_ended octets head built stands =
    let P : List (List ℕ) → Type 0 = λ l. AllByRecursion IsLabel l in
    record {
      each = subst P (sym (append-nil (labels_built built))) stands.each;
      whole = stands.whole ∙ ap labels_wire (sym (append-nil (labels_built built)));
      few = stands.few;
      place = refl;
    }

-- one label more
pub wire_more : (octets : List ℕ) (labels : List (List ℕ)) (label : List ℕ) → octets ≡ labels_wire labels
    → octets ++ label_wire label ≡ labels_wire (labels ++ label ∷ [])
wire_more octets labels label is =
    ap (λ o. o ++ label_wire label) is ∙ ap (λ l. labels_wire labels ++ (length label ∷ l)) (sym (append-nil label))
    ∙ sym (labels_wire-append labels (label ∷ []))

pub stands_label : (octets : List ℕ) (head : Option ℕ) (built : Built) (label : List ℕ) → StandsFor octets head built → IsLabel label
    → length octets + 1 + length label ≤ 254
    → StandsFor (octets ++ label_wire label) None (record { finished = labels_built built ++ label ∷ []; begun = None })
stands_label octets head built label stands is_label few =
    let P : List (List ℕ) → Type 0 = λ l. AllByRecursion IsLabel l in
    let all = labels_built built ++ label ∷ [] in
    record {
      each = subst P (sym (append-nil all)) (labels_more (labels_built built) label stands.each is_label);
      whole = wire_more octets (labels_built built) label stands.whole ∙ ap labels_wire (sym (append-nil all));
      few = omega (arith, length-append octets (label_wire label));
      place = refl;
    }

pub stands_begun : (octets : List ℕ) (finished : List (List ℕ)) (label : List ℕ) (len : ℕ)
    → StandsFor octets None (record { finished = finished; begun = None }) → IsLabel label → len ≡ length octets
    → length octets + 1 + length label ≤ 254
    → StandsFor (octets ++ label_wire label) (Some len) (record { finished = finished; begun = Some label })
stands_begun octets finished label len stands is_label at few =
    let P : List (List ℕ) → Type 0 = λ l. AllByRecursion IsLabel l in
    let whole : octets ≡ labels_wire finished = stands.whole ∙ ap labels_wire (append-nil finished) in
    record {
      each = labels_more finished label (each_front finished [] stands.each) is_label;
      whole = wire_more octets finished label whole;
      few = omega (arith, length-append octets (label_wire label));
      place = ap Some (at ∙ ap (length {A = ℕ}) whole);
    }

-- the open label goes on
pub stands_more : (octets : List ℕ) (place : ℕ) (finished : List (List ℕ)) (text more : List ℕ) (count : ℕ)
    → StandsFor octets (Some place) (record { finished = finished; begun = Some text }) → count ≡ length text + length more → count ≤ 63
    → length octets + length more ≤ 254
    → StandsFor (set (octets ++ more) place count) (Some place) (record { finished = finished; begun = Some (text ++ more) })
stands_more octets place finished text more count stands is short few =
    let whole = open_wire octets finished text stands.whole in
    let at : place ≡ length (labels_wire finished) = let e = stands.place in cc in
    let some = (each_back finished (text ∷ []) stands.each).0.some in
    let size = length-append text more in
    let new : set (octets ++ more) place count ≡ labels_wire finished ++ (length (text ++ more) ∷ (text ++ more)) =
    ap (λ (n : ℕ). set (octets ++ more) n count) at ∙ ap (λ o. set (o ++ more) (length (labels_wire finished)) count) whole
    ∙ ap (λ o. set o (length (labels_wire finished)) count) (append_assoc (labels_wire finished) (length text ∷ text) more)
    ∙ set_seam (labels_wire finished) (length text) count (text ++ more)
    ∙ ap (λ (n : ℕ). labels_wire finished ++ (n ∷ (text ++ more))) (is ∙ sym size) in
    let all : set (octets ++ more) place count ≡ labels_wire (finished ++ (text ++ more) ∷ []) =
    new ∙ ap (λ l. labels_wire finished ++ (length (text ++ more) ∷ l)) (sym (append-nil (text ++ more))) ∙ sym (labels_wire-append finished ((text ++ more) ∷ [])) in
    record {
      each = labels_more finished (text ++ more) (each_front finished (text ∷ []) stands.each) (record { some = omega arith; short = omega arith });
      whole = all;
      few = omega (arith, ap (length {A = ℕ}) new, ap (length {A = ℕ}) whole, length-append (labels_wire finished) (length text ∷ text), length-append (labels_wire finished) (length (text ++ more) ∷ (text ++ more)));
      place = stands.place;
    }

-- the number of octets
pub stands_len : (octets : List ℕ) (head : Option ℕ) (built : Built) → StandsFor octets head built → length octets ≡ built_len built
stands_len octets head built stands = ap (length {A = ℕ}) stands.whole

pub label_len : (built : Built) (label : List ℕ) → 0 < length label → built_len (with_label built label) ≡ built_len built + 1 + length label
label_len built [] some = absurd (omega arith)
label_len built (octet ∷ label) some =
    ap (λ (l : List (List ℕ)). length (labels_wire l)) (append-nil (labels_built built ++ (octet ∷ label) ∷ []))
    ∙ length-labels_wire_more (labels_built built) (octet ∷ label)

-- with the root after them the labels are a name
pub stands_name : (octets whole : List ℕ) (head : Option ℕ) (built : Built) → StandsFor octets head built → whole ≡ octets ++ 0 ∷ []
    → IsName (labels_built built) × (whole ≡ wire (labels_built built))
stands_name octets whole head built stands is =
    let all : whole ≡ wire (labels_built built) =
    is ∙ ap (λ o. o ++ 0 ∷ []) stands.whole ∙ sym (wire_is (labels_built built)) in
    let few = stands.few in (
      record { labels = stands.each; short = omega (arith, ap (length {A = ℕ}) (sym all ∙ is), length-append octets (0 ∷ [])) },
      all,
    )

pub each_append : (front back : List (List ℕ)) → AllByRecursion IsLabel front → AllByRecursion IsLabel back → AllByRecursion IsLabel (front ++ back)
each_append [] back each all = all
each_append (label ∷ front) back each all = (each.0, each_append front back each.1 all)
