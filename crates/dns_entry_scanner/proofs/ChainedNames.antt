-- The labels that were read from a text, followed by an origin.
use Rattle.std.proofs.Common.{◌≡◌, ℕ, ◌+◌, ◌<◌, ◌≤◌, List, [], ◌∷◌, ◌++◌, length, take, refl, sym, ◌∙◌, ap, subst, arith, append_assoc}
use Rattle.std.proofs.lemmas.List.{take-take}
use Rattle.std.proofs.Math.Seq.{take-append_seam}
use Rattle.std.specs.List.{AllByRecursion}
use Rattle.dns_label.specs.Name.{IsLabel, IsName, wire, labels_wire, with_root}
use Rattle.dns_wire.specs.Chain.{before_root}
use Rattle.dns_wire.specs.Draft.{Holds}
use Rattle.dns_wire.specs.declared.text.draft.NameDraft.{NameDraft}
use Rattle.dns_wire.proofs.Case.{wire_one}
use Rattle.dns_wire.proofs.Drafts.{draft-name}
use Rattle.dns_wire.proofs.Wire.{labels_wire-append, length-wire_is, length-wire-append, wire_is}
use Rattle.dns_flat.proofs.Chains.{joined_name}

-- the labels before the root's
before_rooted : (name : List (List ℕ)) → AllByRecursion IsLabel name → before_root (with_root name) ≡ name
before_rooted [] each = refl
before_rooted ([] ∷ name) each = absurd (omega (arith, each.0.some))
before_rooted ((octet ∷ text) ∷ name) each = ap (λ l. (octet ∷ text) ∷ l) (before_rooted name each.1)

-- a chain with this few octets is accepted
pub chain_fits : (front name : List (List ℕ)) → IsName name → length (labels_wire front) + length (wire name) ≤ 255
    → 254 < length (labels_wire front) + length (labels_wire (before_root (with_root name))) → ⊥
chain_fits front name is_name few long =
    omega (arith, few, long, length-wire_is name, ap (λ (l : List (List ℕ)). length (labels_wire l)) (before_rooted name is_name.labels))

-- the finished labels are a name
pub held_name : (draft : NameDraft) (done : List (List ℕ)) → Holds draft done [] → IsName done
held_name draft done holds =
    let all = draft.whole in
    let few = draft.few in
    draft-name draft.octets draft.len done (omega arith) few holds.written holds.labels

-- their octets
pub front_octets : (draft : NameDraft) (done : List (List ℕ)) → Holds draft done []
    → take draft.start draft.octets ≡ labels_wire done
front_octets draft done holds =
    let room = draft.room in
    sym (take-take draft.start draft.len draft.octets (omega arith))
    ∙ ap (take draft.start) holds.written
    ∙ ap (λ (n : ℕ). take n (labels_wire done ++ 0 ∷ [])) holds.place
    ∙ take-append_seam (labels_wire done) (0 ∷ [])

-- only this name has these octets
pub front_held : (draft : NameDraft) (done name : List (List ℕ)) → Holds draft done []
    → take draft.start draft.octets ≡ labels_wire name → Holds draft name []
front_held draft done name holds made =
    let same : wire done ≡ wire name =
    wire_is done ∙ ap (λ l. l ++ 0 ∷ []) (sym (front_octets draft done holds) ∙ made) ∙ sym (wire_is name) in
    let P : List (List ℕ) → Type 0 = λ n. Holds draft n [] in subst P (wire_one done name same) holds

-- with the origin they are a name exactly if they have few octets
pub origin_fits : (draft : NameDraft) (done origin : List (List ℕ)) → Holds draft done [] → IsName origin
    → length (take draft.start draft.octets) + length (wire origin) ≤ 255 → IsName (done ++ origin)
origin_fits draft done origin holds is_name few =
    joined_name done origin (held_name draft done holds) is_name (omega (arith, few, ap (length {A = ℕ}) (front_octets draft done holds)))

pub origin_long : (draft : NameDraft) (done origin : List (List ℕ)) → Holds draft done [] → IsName (done ++ origin)
    → 255 < length (take draft.start draft.octets) + length (wire origin) → ⊥
origin_long draft done origin holds is_name many =
    omega (arith, many, is_name.short, length-wire-append done origin, ap (length {A = ℕ}) (front_octets draft done holds))

-- the finished labels are one name
pub held_one : (draft : NameDraft) (done other : List (List ℕ)) → Holds draft done [] → Holds draft other [] → done ≡ other
held_one draft done other holds also =
    wire_one done other
    (wire_is done ∙ ap (λ l. l ++ 0 ∷ []) (sym (front_octets draft done holds) ∙ front_octets draft other also) ∙ sym (wire_is other))

-- if they are a name with the origin, they have few octets with it
pub few_octets : (draft : NameDraft) (front done origin : List (List ℕ)) → Holds draft front [] → Holds draft done []
    → IsName (done ++ origin) → length (labels_wire front) + length (wire origin) ≤ 255
few_octets draft front done origin held holds is_name =
    omega (
      arith,
      is_name.short,
      length-wire-append done origin,
      ap (length {A = ℕ}) (sym (front_octets draft front held) ∙ front_octets draft done holds),
    )

-- their octets, followed by those of the origin, are the octets of both
pub wire-append : (front more : List (List ℕ)) {octets : List ℕ} → octets ≡ wire more → labels_wire front ++ octets ≡ wire (front ++ more)
wire-append front more is =
    ap (λ l. labels_wire front ++ l) (is ∙ wire_is more) ∙ sym (append_assoc (labels_wire front) (labels_wire more) (0 ∷ []))
    ∙ ap (λ l. l ++ 0 ∷ []) (sym (labels_wire-append front more)) ∙ sym (wire_is (front ++ more))
