-- Whether a name is at a place of a message is decided (RFC 1035 4.1.4).
use Rattle.std.specs.Prelude.{◌≡◌, ◌+◌, ◌-◌, ◌*◌, ◌<◌, ◌≤◌, ◌⊎◌, ℕ, zero, suc, List, [], ◌∷◌, ◌++◌, length, take, drop}
use Rattle.std.specs.List.{AllByRecursion}
use Rattle.std.proofs.Common.{inl, inr, refl, sym, ap, subst, arith, ◌∙◌, length-append}
use Rattle.std.proofs.lemmas.List.{take-append-drop, length-take-le, drop_all}
use Rattle.dns_label.specs.Name.{IsLabel, wire}
use Rattle.dns_label.specs.Spelled.{EncodesName, DecodesName}
use Rattle.dns_label.specs.Spelled.EncodesName.{root, label, pointer}
use Rattle.dns_label.proofs.Spelling.{labels_from-spelled}
use Rattle.dns_sections.specs.Decision.{Decision, both, below, decide-below}

-- a name that is spelled at a place, and the place after it
pub record Spelled (message : List ℕ) (pointers place : ℕ) : Type 0 where
  pub name : List (List ℕ)
  pub next : ℕ
  pub spells : EncodesName message pointers place name next

-- a name that is read at a place, and the place after it
pub record Named (message : List ℕ) (place : ℕ) : Type 0 where
  pub name : List (List ℕ)
  pub next : ℕ
  pub reads : DecodesName message place name next

-- a label of `first` octets is whole, and a name follows it
record GoesOn (message : List ℕ) (pointers place first : ℕ) (rest : List ℕ) : Type 0 where
  whole : first ≤ length rest
  parent : Spelled message pointers (place + 1 + first)

-- a pointer may still be followed, it leads back, and a name is at its target
abbrev LeadsBack : List ℕ → ℕ → ℕ → ℕ → Type 0
LeadsBack message zero place target = ⊥
LeadsBack message (suc pointers) place target = (target < place) × Spelled message pointers target

-- what the first octets tell of a name that is spelled
no-octet : (message : List ℕ) {pointers place next : ℕ} {name : List (List ℕ)} → EncodesName message pointers place name next
    → drop place message ≡ [] → ⊥
no-octet message (root rest is) at = cc
no-octet message (label rest is is_label parent) at = cc
no-octet message (pointer first second after rest is both_bits back name) at = cc

label-on : (message : List ℕ) (first : ℕ) (others : List ℕ) {pointers place next : ℕ} {name : List (List ℕ)}
    → EncodesName message pointers place name next → drop place message ≡ first ∷ others → 0 < first → first < 64
    → GoesOn message pointers place first others
label-on message first others (root rest is) at some short = let none : 0 ≡ first = cc in absurd (omega arith)
label-on message first others {pointers} {place} (label {next = next} {label = text} {parent = parent} rest is is_label spells) at some short =
    let same : length text ≡ first = cc in
    let tail : text ++ rest ≡ others = cc in record {
      whole = omega (arith, same, ap (length {A = ℕ}) tail, length-append text rest);
      parent = subst (λ n. Spelled message pointers (place + 1 + n)) same (record { name = parent; next = next; spells = spells });
    }
label-on message first others (pointer octet second after rest is both_bits back name) at some short =
    let same : octet ≡ first = cc in absurd (omega arith)

undefined : (message : List ℕ) (first : ℕ) (others : List ℕ) {pointers place next : ℕ} {name : List (List ℕ)}
    → EncodesName message pointers place name next → drop place message ≡ first ∷ others → 64 ≤ first → first < 192 → ⊥
undefined message first others (root rest is) at large small = let none : 0 ≡ first = cc in omega arith
undefined message first others (label {label = text} rest is is_label parent) at large small =
    let same : length text ≡ first = cc in omega (arith, is_label.short)
undefined message first others (pointer octet second after rest is both_bits back name) at large small =
    let same : octet ≡ first = cc in omega arith

half : (message : List ℕ) (first : ℕ) {pointers place next : ℕ} {name : List (List ℕ)} → EncodesName message pointers place name next
    → drop place message ≡ first ∷ [] → 192 ≤ first → ⊥
half message first (root rest is) at large = let none : 0 ≡ first = cc in omega arith
half message first (label {label = text} rest is is_label parent) at large =
    let same : length text ≡ first = cc in omega (arith, is_label.short)
half message first (pointer octet second after rest is both_bits back name) at large = cc

pointer-back : (message : List ℕ) (first second : ℕ) (others : List ℕ) {pointers place next : ℕ} {name : List (List ℕ)}
    → EncodesName message pointers place name next → drop place message ≡ first ∷ second ∷ others → 192 ≤ first
    → LeadsBack message pointers place (256 * (first - 192) + second)
pointer-back message first second others (root rest is) at large = let none : 0 ≡ first = cc in absurd (omega arith)
pointer-back message first second others (label {label = text} rest is is_label parent) at large =
    let same : length text ≡ first = cc in absurd (omega (arith, is_label.short))
pointer-back message first second others {place = place} (pointer {pointers = pointers} {name = name} octet low after rest is both_bits back spells) at large =
    let same : octet ≡ first = cc in
    let same_low : low ≡ second = cc in
    let target : 256 * (octet - 192) + low ≡ 256 * (first - 192) + second = λ i. 256 * (same i - 192) + same_low i in
    subst (λ t. (t < place) × Spelled message pointers t) target (back, record { name = name; next = after; spells = spells })

-- Whether a name is spelled at a place, by the octets there. `leads` decides it for the target of a pointer.
module _ (message : List ℕ) (pointers : ℕ) (leads : (place target : ℕ) → Decision (LeadsBack message pointers place target))
    (leads-on : (first second place : ℕ) (rest : List ℕ) → drop place message ≡ first ∷ second ∷ rest → 192 ≤ first
    → LeadsBack message pointers place (256 * (first - 192) + second) → Spelled message pointers place) where
  spelled-root : (place first : ℕ) (rest : List ℕ) → drop place message ≡ first ∷ rest → first ≤ 0 → Spelled message pointers place
  spelled-root place first rest at none =
      let zero : first ≡ 0 = omega arith in
      record { name = []; next = place + 1; spells = root rest (at ∙ ap (λ n. n ∷ rest) zero) }

  spelled-label : (place first : ℕ) (rest : List ℕ) → drop place message ≡ first ∷ rest → 0 < first → first < 64 → first ≤ length rest
      → Spelled message pointers (place + 1 + first) → Spelled message pointers place
  spelled-label place first rest at some short whole parent =
      let long : length (take first rest) ≡ first = length-take-le first rest whole in
      let parts : take first rest ++ drop first rest ≡ rest = take-append-drop first rest in
      let here : drop place message ≡ length (take first rest) ∷ take first rest ++ drop first rest = at ∙ (λ i. sym long i ∷ sym parts i) in
      let spells = subst (λ n. EncodesName message pointers (place + 1 + n) parent.name parent.next) (sym long) parent.spells in record {
        name = take first rest ∷ parent.name;
        next = parent.next;
        spells = label (drop first rest) here (record { some = omega (arith, long, some); short = omega (arith, long, short) }) spells;
      }

  by-label : (place first : ℕ) (rest : List ℕ) → drop place message ≡ first ∷ rest → 0 < first → first < 64
      → (length rest < first) ⊎ (first ≤ length rest) → Decision (Spelled message pointers (place + 1 + first))
      → Decision (Spelled message pointers place)
  by-label place first rest at some short (inl few) parent =
      Decision.no (λ s. omega (arith, few, (label-on message first rest s.spells at some short).whole))
  by-label place first rest at some short (inr whole) (Decision.yes parent) =
      Decision.yes (spelled-label place first rest at some short whole parent)
  by-label place first rest at some short (inr whole) (Decision.no none) =
      Decision.no (λ s. none (label-on message first rest s.spells at some short).parent)

  by-pointer : (place first : ℕ) (rest : List ℕ) → drop place message ≡ first ∷ rest → 192 ≤ first → Decision (Spelled message pointers place)
  by-pointer place first [] at large = Decision.no (λ s. half message first s.spells at large)
  by-pointer place first (second ∷ rest) at large = by_target (leads place (256 * (first - 192) + second))
    where
      by_target : Decision (LeadsBack message pointers place (256 * (first - 192) + second)) → Decision (Spelled message pointers place)
      by_target (Decision.yes back) = Decision.yes (leads-on first second place rest at large back)
      by_target (Decision.no none) = Decision.no (λ s. none (pointer-back message first second rest s.spells at large))

  by-first : (place first : ℕ) (rest : List ℕ) → drop place message ≡ first ∷ rest → (0 < first) ⊎ (first ≤ 0)
      → (first < 64) ⊎ (64 ≤ first) → (first < 192) ⊎ (192 ≤ first) → Decision (Spelled message pointers (place + 1 + first))
      → Decision (Spelled message pointers place)
  by-first place first rest at (inr none) small large parent = Decision.yes (spelled-root place first rest at none)
  by-first place first rest at (inl some) (inl small) large parent =
      by-label place first rest at some small (below (length rest) first) parent
  by-first place first rest at (inl some) (inr large) (inl small) parent =
      Decision.no (λ s. undefined message first rest s.spells at large small)
  by-first place first rest at (inl some) (inr more) (inr large) parent = by-pointer place first rest at large

  by-octets : (place : ℕ) (octets : List ℕ) → drop place message ≡ octets
      → ((first : ℕ) → Decision (Spelled message pointers (place + 1 + first))) → Decision (Spelled message pointers place)
  by-octets place [] at parent = Decision.no (λ s. no-octet message s.spells at)
  by-octets place (first ∷ rest) at parent =
      by-first place first rest at (below 0 first) (below first 64) (below first 192) (parent first)

  -- by the octets that are left
  by-left : (left place : ℕ) → length message ≤ place + left → Decision (Spelled message pointers place)
  by-left zero place all = Decision.no (λ s. no-octet message s.spells (drop_all place message (omega arith)))
  by-left (suc left) place all = by-octets place (drop place message) refl (λ first. by-left left (place + 1 + first) (omega arith))

-- a pointer that is followed
spelled-pointer : (message : List ℕ) (pointers first second place : ℕ) (rest : List ℕ) → drop place message ≡ first ∷ second ∷ rest
    → 192 ≤ first → (256 * (first - 192) + second < place) × Spelled message pointers (256 * (first - 192) + second)
    → Spelled message (suc pointers) place
spelled-pointer message pointers first second place rest at large (back, spelled) = record {
  name = spelled.name;
  next = place + 2;
  spells = pointer first second spelled.next rest at large back spelled.spells;
}

pub decide-spelled : (message : List ℕ) (pointers place : ℕ) → Decision (Spelled message pointers place)
decide-spelled message zero place =
    by-left message 0 (λ here target. Decision.no (λ none. none)) (λ first second here rest at large none. absurd none) (length message) place
    (omega arith)
decide-spelled message (suc pointers) place =
    by-left message (suc pointers) (λ here target. both (decide-below target here) (decide-spelled message pointers target))
    (spelled-pointer message pointers) (length message) place (omega arith)

-- one name is spelled at a place, of labels
spelled-one : {message : List ℕ} {pointers place next end : ℕ} {name other : List (List ℕ)} → EncodesName message pointers place name next
    → EncodesName message pointers place other end → name ≡ other
spelled-one {message} {pointers} {name = name} {other = other} spells others =
    let heads = pointers + length name + length other + 1 in
    sym (labels_from-spelled message heads spells (omega arith)) ∙ labels_from-spelled message heads others (omega arith)

spelled-labels : (message : List ℕ) {pointers place next : ℕ} {name : List (List ℕ)} → EncodesName message pointers place name next
    → AllByRecursion IsLabel name
spelled-labels message (root rest is) = tt
spelled-labels message (label rest is is_label parent) = (is_label, spelled-labels message parent)
spelled-labels message (pointer first second after rest is both_bits back name) = spelled-labels message name

pub decide-named : (message : List ℕ) (place : ℕ) → Decision (Named message place)
decide-named message place = by_spelled (decide-spelled message 255 place)
  where
    by_length : (s : Spelled message 255 place) → (length (wire s.name) < 256) ⊎ (256 ≤ length (wire s.name)) → Decision (Named message place)
    by_length s (inl short) = Decision.yes (record {
      name = s.name;
      next = s.next;
      reads = record { spelled = s.spells; is_name = record { labels = spelled-labels message s.spells; short = omega arith } };
    })
    by_length s (inr long) = Decision.no (λ n.
        let same : n.name ≡ s.name = spelled-one n.reads.spelled s.spells in
        omega (arith, long, n.reads.is_name.short, ap (λ l. length (wire l)) same))

    by_spelled : Decision (Spelled message 255 place) → Decision (Named message place)
    by_spelled (Decision.yes s) = by_length s (below (length (wire s.name)) 256)
    by_spelled (Decision.no none) = Decision.no (λ n. none (record { name = n.name; next = n.next; spells = n.reads.spelled }))
