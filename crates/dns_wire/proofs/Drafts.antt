-- A name while its text is read.
use Rattle.std.proofs.Common.{◌≡◌, ℕ, zero, suc, ◌+◌, ◌<◌, ◌≤◌, List, [], ◌∷◌, ◌++◌, length, take, set, refl, sym, ◌∙◌, ap, arith, append-nil, length-append, length-take}
use Rattle.std.specs.List.{AllByRecursion}
use Rattle.dns_label.specs.Name.{IsLabel, IsName, wire, labels_wire}
use Rattle.dns_wire.specs.Draft.{Holds}
use Rattle.dns_wire.specs.declared.text.draft.NameDraft.{NameDraft}
use Rattle.dns_wire.proofs.Case.{wire_one}
use Rattle.dns_wire.proofs.Wire.{labels_wire-append, wire_is}

-- a write after what is taken
pub take_set_at : (octets : List ℕ) (len : ℕ) (octet : ℕ) → len < length octets
    → take (suc len) (set octets len octet) ≡ take len octets ++ octet ∷ []
take_set_at [] len octet within = absurd (omega arith)
take_set_at (first ∷ octets) zero octet within = refl
take_set_at (first ∷ octets) (suc len) octet within = ap (λ l. first ∷ l) (take_set_at octets len octet (omega arith))

-- a write within what is taken
pub take_set_in : (octets : List ℕ) (len place : ℕ) (octet : ℕ) → place < len
    → take len (set octets place octet) ≡ set (take len octets) place octet
take_set_in octets zero place octet within = absurd (omega arith)
take_set_in [] (suc len) zero octet within = refl
take_set_in [] (suc len) (suc place) octet within = refl
take_set_in (first ∷ octets) (suc len) zero octet within = refl
take_set_in (first ∷ octets) (suc len) (suc place) octet within =
    ap (λ l. first ∷ l) (take_set_in octets len place octet (omega arith))

pub set_seam : (front : List ℕ) (octet other : ℕ) (rest : List ℕ) → set (front ++ octet ∷ rest) (length front) other ≡ front ++ other ∷ rest
set_seam [] octet other rest = refl
set_seam (first ∷ front) octet other rest = ap (λ l. first ∷ l) (set_seam front octet other rest)

-- the number of octets
pub draft-len : (octets : List ℕ) (len : ℕ) (done : List (List ℕ)) (begun : List ℕ) → len ≤ length octets
    → take len octets ≡ labels_wire done ++ 0 ∷ begun → len ≡ length (labels_wire done) + 1 + length begun
draft-len octets len done begun within is =
    omega (arith, length-take len octets, ap (length {A = ℕ}) is, length-append (labels_wire done) (0 ∷ begun))

pub draft-end : (octets : List ℕ) (len place count : ℕ) (done : List (List ℕ)) (begun : List ℕ) → len < length octets
    → take len octets ≡ labels_wire done ++ 0 ∷ begun → place ≡ length (labels_wire done) → count ≡ length begun
    → length (set octets place count) ≡ length octets
    → take (len + 1) (set (set octets place count) len 0) ≡ labels_wire (done ++ begun ∷ []) ++ 0 ∷ []
draft-end octets len place count done begun within is at long same =
    let size = draft-len octets len done begun (omega arith) is in
    let e : len + 1 ≡ suc len = omega arith in
    ap (λ (n : ℕ). take n (set (set octets place count) len 0)) e
    ∙ take_set_at (set octets place count) len 0 (omega arith)
    ∙ ap (λ l. l ++ 0 ∷ []) (take_set_in octets len place count (omega arith)
    ∙ ap (λ l. set l place count) is ∙ ap (λ (n : ℕ). set (labels_wire done ++ 0 ∷ begun) n count) at
    ∙ set_seam (labels_wire done) 0 count begun ∙ ap (λ (n : ℕ). labels_wire done ++ n ∷ begun) long
    ∙ ap (λ l. labels_wire done ++ length begun ∷ l) (sym (append-nil begun))
    ∙ sym (labels_wire-append done (begun ∷ [])))

pub labels_more : (done : List (List ℕ)) (label : List ℕ) → AllByRecursion IsLabel done → IsLabel label
    → AllByRecursion IsLabel (done ++ label ∷ [])
labels_more [] label each is_label = (is_label, tt)
labels_more (first ∷ done) label each is_label = (each.0, labels_more done label each.1 is_label)

-- with no open label they are the wire form of the finished ones
pub draft-wire : (octets : List ℕ) (len : ℕ) (done : List (List ℕ)) → take len octets ≡ labels_wire done ++ 0 ∷ []
    → take len octets ≡ wire done
draft-wire octets len done is = is ∙ sym (wire_is done)

pub draft-name : (octets : List ℕ) (len : ℕ) (done : List (List ℕ)) → len ≤ length octets → len ≤ 255
    → take len octets ≡ labels_wire done ++ 0 ∷ [] → AllByRecursion IsLabel done → IsName done
draft-name octets len done within few is each = record {
  labels = each;
  short = omega (arith, length-take len octets, ap (length {A = ℕ}) (draft-wire octets len done is));
}

-- it is not the root's
pub draft-some : (octets : List ℕ) (len : ℕ) (done : List (List ℕ)) → len ≤ length octets → (len ≡ 1 → ⊥)
    → take len octets ≡ labels_wire done ++ 0 ∷ [] → 0 < length done
draft-some octets len [] within some is = absurd (some (draft-len octets len [] [] within is))
draft-some octets len (label ∷ done) within some is = omega arith

pub draft-none : (octets : List ℕ) (len : ℕ) (done : List (List ℕ)) → len ≤ length octets → len ≡ 1
    → take len octets ≡ labels_wire done ++ 0 ∷ [] → length done ≡ 0
draft-none octets len [] within one is = refl
draft-none octets len (label ∷ done) within one is =
    let size = draft-len octets len (label ∷ done) [] within is in absurd (omega arith)

pub holds_one : (draft : NameDraft) (done other : List (List ℕ)) → Holds draft done [] → wire other ≡ take draft.len draft.octets → other ≡ done
holds_one draft done other holds is = wire_one other done (is ∙ draft-wire draft.octets draft.len done holds.written)
