-- A name in full at the start of octets.
use Rattle.std.proofs.Common.{◌≡◌, ℕ, List, [], ◌∷◌, ◌++◌, length, refl, sym, ◌∙◌, arith, append_assoc}
use Rattle.std.specs.List.{AllByRecursion}
use Rattle.dns_octets.proofs.Fronts.{same_fronts}
use Rattle.dns_label.specs.Name.{IsLabel, wire}

-- only one name is at the start
pub wire_fronts : (name other : List (List ℕ)) (more rest : List ℕ) → AllByRecursion IsLabel name → AllByRecursion IsLabel other
    → wire name ++ more ≡ wire other ++ rest → (name ≡ other) × (more ≡ rest)
wire_fronts [] [] more rest each each' e = (refl, cc)
wire_fronts [] (text ∷ other) more rest each each' e =
    let none : 0 ≡ length text = cc in absurd (omega (arith, each'.0.some))
wire_fronts (text ∷ name) [] more rest each each' e =
    let none : length text ≡ 0 = cc in absurd (omega (arith, each.0.some))
wire_fronts (text ∷ name) (text' ∷ other) more rest each each' e =
    let here : length text ∷ text ++ (wire name ++ more) ≡ length text' ∷ text' ++ (wire other ++ rest) =
    sym (append_assoc (length text ∷ text) (wire name) more) ∙ e ∙ append_assoc (length text' ∷ text') (wire other) rest in
    let long : length text ≡ length text' = cc (here) in
    let behind : text ++ (wire name ++ more) ≡ text' ++ (wire other ++ rest) = cc (here) in
    let labels = same_fronts text text' (wire name ++ more) (wire other ++ rest) long behind in
    let parents = wire_fronts name other more rest each.1 each'.1 labels.1 in
    (cc (labels.0, parents.0), parents.1)
