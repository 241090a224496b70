-- A walk over the lengths of a name's labels.
use Rattle.std.proofs.Common.{◌≡◌, ◌≢◌, ◌+◌, ◌<◌, ℕ, List, [], ◌∷◌, ◌++◌, length, take, drop, get_or, suc, sym, ◌∙◌, ap, subst, arith, append_assoc, length-append, drop-cons, drop-drop}
use Rattle.std.specs.List.{AllByRecursion}
use Rattle.std.proofs.Math.Seq.{take-append_seam, drop-append_seam}
use Rattle.std.proofs.lemmas.List.{length-drop}
use Rattle.dns_label.specs.Name.{IsLabel, IsName, wire}
use Rattle.dns_wire.specs.Flat.{IsWritten}
use Rattle.dns_wire.proofs.Case.{wire_one}
use Rattle.dns_wire.proofs.Flat.{flat-written}
use Rattle.dns_wire.proofs.NameFronts.{wire_fronts}

-- from the place on, the octets are the remaining labels of the name that they begin with
pub record Walked (octets : List ℕ) (place : ℕ) : Type 0 where
  pub name : List (List ℕ)
  pub left : List (List ℕ)
  pub rest : List ℕ
  pub is_name : IsName name
  pub whole : octets ≡ wire name ++ rest
  pub labels : AllByRecursion IsLabel left
  pub here : drop place octets ≡ wire left ++ rest
  pub far : place + length (wire left) ≡ length (wire name)

pub walked_here : {octets : List ℕ} → (name : List (List ℕ)) × (rest : List ℕ) × IsName name × (octets ≡ wire name ++ rest) → Walked octets 0
walked_here found = record {
  name = found.0;
  left = found.0;
  rest = found.1;
  is_name = found.2;
  whole = found.3;
  labels = found.2.labels;
  here = found.3;
  far = omega arith;
}

some_wire : (left : List (List ℕ)) → 0 < length (wire left)
some_wire [] = omega arith
some_wire (text ∷ left) = omega arith

module _ {octets : List ℕ} {place : ℕ} (walked : Walked octets place) where
  pub walked_within : place < length octets
  walked_within =
      let here = ap (λ (l : List ℕ). length l) walked.here in
      omega (arith, some_wire walked.left, here, length-append (wire walked.left) walked.rest, length-drop place octets)

  octet_here : drop place octets ≡ get_or octets place 0 ∷ drop (place + 1) octets
  octet_here =
      let next : suc place ≡ place + 1 = omega arith in
      subst (λ (n : ℕ). drop place octets ≡ get_or octets place 0 ∷ drop n octets) next (drop-cons octets place 0 walked_within)

on_from : (octets : List ℕ) (place : ℕ) (name left : List (List ℕ)) (rest : List ℕ) → IsName name → octets ≡ wire name ++ rest
    → AllByRecursion IsLabel left → drop place octets ≡ wire left ++ rest → place + length (wire left) ≡ length (wire name)
    → drop place octets ≡ get_or octets place 0 ∷ drop (place + 1) octets → get_or octets place 0 ≢ 0
    → Walked octets (place + (get_or octets place 0 + 1))
on_from octets place name [] rest is_name whole labels here far at some =
    let none : _ ≡ 0 = cc in absurd (some none)
on_from octets place name (text ∷ left) rest is_name whole labels here far at some =
    let long : get_or octets place 0 ≡ length text = let both = sym at ∙ here in cc in
    let front : List ℕ = length text ∷ text in
    let wide : length text + 1 ≡ length front = omega arith in
    let behind : drop (place + (length text + 1)) octets ≡ wire left ++ rest =
    sym (drop-drop (length text + 1) place octets)
    ∙ ap (λ l. drop (length text + 1) l) (here ∙ append_assoc front (wire left) rest)
    ∙ ap (λ n. drop n (front ++ (wire left ++ rest))) wide
    ∙ drop-append_seam front (wire left ++ rest) in
    record {
      name = name;
      left = left;
      rest = rest;
      is_name = is_name;
      whole = whole;
      labels = labels.1;
      here = ap (λ (n : ℕ). drop (place + (n + 1)) octets) long ∙ behind;
      far = omega (arith, far, long, length-append front (wire left));
    }

pub walked_on : {octets : List ℕ} {place : ℕ} → Walked octets place → get_or octets place 0 ≢ 0 → Walked octets (place + (get_or octets place 0 + 1))
walked_on {octets} {place} walked some =
    on_from octets place walked.name walked.left walked.rest walked.is_name walked.whole walked.labels walked.here walked.far (octet_here walked) some

-- at the root
end_from : (octets : List ℕ) (place : ℕ) (name left : List (List ℕ)) (rest : List ℕ) → AllByRecursion IsLabel left
    → drop place octets ≡ wire left ++ rest → place + length (wire left) ≡ length (wire name)
    → drop place octets ≡ get_or octets place 0 ∷ drop (place + 1) octets → get_or octets place 0 ≡ 0 → place + 1 ≡ length (wire name)
end_from octets place name [] rest labels here far at none = far
end_from octets place name (text ∷ left) rest labels here far at none =
    let long : 0 ≡ length text = let both = sym at ∙ here in cc in
    let some = labels.0.some in absurd (omega (arith, some, long))

pub walked_all : {octets : List ℕ} {place : ℕ} (walked : Walked octets place) → get_or octets place 0 ≡ 0
    → take (place + 1) octets ≡ wire walked.name
walked_all {octets} {place} walked none =
    let far = end_from octets place walked.name walked.left walked.rest walked.labels walked.here walked.far (octet_here walked) none in
    (λ i. take (far i) (walked.whole i)) ∙ take-append_seam (wire walked.name) walked.rest

pub walked_written : {octets : List ℕ} {place : ℕ} → Walked octets place → get_or octets place 0 ≡ 0 → IsWritten (take (place + 1) octets)
walked_written {octets} {place} walked none = flat-written (take (place + 1) octets) walked.name walked.is_name (walked_all walked none)

-- octets begin with one name
pub walked_name : {octets : List ℕ} {place : ℕ} (walked : Walked octets place) → get_or octets place 0 ≡ 0 → {found : List (List ℕ)}
    → take (place + 1) octets ≡ wire found → (name : List (List ℕ)) (rest : List ℕ) → IsName name → octets ≡ wire name ++ rest → found ≡ name
walked_name walked none {found} is name rest is_name whole =
    wire_one found walked.name (sym is ∙ walked_all walked none)
    ∙ (wire_fronts walked.name name walked.rest rest walked.is_name.labels is_name.labels (sym walked.whole ∙ whole)).0
