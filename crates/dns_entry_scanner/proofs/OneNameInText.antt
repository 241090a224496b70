-- Under an origin, a text spells at most one name.
use Rattle.std.proofs.Common.{◌≡◌, ℕ, List, [], ◌∷◌, ◌++◌, Option, get_or, length, refl, sym, ◌∙◌, ap, subst, arith}
use Rattle.dns_label.specs.declared.symbol.Symbol.TheVariants.{Char}
use Rattle.dns_label.specs.NameText.{HasParts, IsAbsoluteText}
use Rattle.dns_label.specs.NameText.IsAbsoluteText.{root, labels as dotted}
use Rattle.dns_wire.proofs.Parts.{parts_one}
use Rattle.dns_wire.proofs.Wire.{last_same}
use Rattle.dns_name.proofs.OneName.{one_absolute, last_dot_apart}
use Rattle.dns_entry_scanner.specs.NameInText.{SpellsUnder}
use Rattle.dns_entry_scanner.specs.NameInText.SpellsUnder.{at, absolute, relative}

same_parts : {text : List ℕ} {parts others : List (List ℕ)} → HasParts text parts → HasParts text others → parts ≡ others
same_parts {parts = parts} {others = others} has other =
    let P : List ℕ → Type 0 = λ t. HasParts t others in
    sym (parts_one has.symbols has.each others (subst P has.written other) ∙ has.between)

-- `@` has no dot at its end
at_parts : {text : List ℕ} → text ≡ 64 ∷ [] → HasParts text ((64 ∷ []) ∷ [])
at_parts is = record { symbols = Char 64 ∷ []; each = (((omega arith, omega arith), λ same. omega arith), tt); written = is; between = refl }

pub at_apart : {text : List ℕ} {name : List (List ℕ)} → text ≡ 64 ∷ [] → IsAbsoluteText text name → ⊥
at_apart is (root dot) = let bad : ◌≡◌ {A = List ℕ} (64 ∷ []) (46 ∷ []) = sym is ∙ dot in
    let octets : ◌≡◌ {A = ℕ} 64 46 = ap (λ (l : List ℕ). get_or l 0 0) bad in omega (arith, octets)
at_apart is (dotted {name = name} some has is_name) =
    let bad : ◌≡◌ {A = List ℕ} [] (64 ∷ []) = (last_same name [] [] (64 ∷ []) (same_parts has (at_parts is))).1 in
    omega (arith, ap (length {A = ℕ}) bad)

-- one origin, and one text
pub one_under : {origin origin' : Option (List (List ℕ))} {text text' : List ℕ} {name name' : List (List ℕ)} → origin ≡ origin'
    → text ≡ text' → SpellsUnder origin text name → SpellsUnder origin' text' name' → name ≡ name'
one_under origins texts at at = cc
one_under origins texts at (absolute is) = absurd (at_apart (sym texts) is)
one_under origins texts at (relative differs is is_name) = absurd (differs (sym texts))
one_under origins texts (absolute is) at = absurd (at_apart texts is)
one_under {name' = name'} origins texts (absolute is) (absolute also) =
    one_absolute is (subst (λ (t : List ℕ). IsAbsoluteText t name') (sym texts) also)
one_under {text = text} {text' = text'} {name = name} origins texts (absolute is) (relative differs also is_name) =
    absurd (last_dot_apart (subst (λ (t : List ℕ). IsAbsoluteText t name) texts is) also)
one_under origins texts (relative differs is is_name) at = absurd (differs texts)
one_under {name' = name'} origins texts (relative differs is is_name) (absolute also) =
    absurd (last_dot_apart (subst (λ (t : List ℕ). IsAbsoluteText t name') (sym texts) also) is)
one_under origins texts (relative {origin = origin} {labels = labels} differs is is_name)
    (relative {origin = origin'} {labels = labels'} differs' also is_name') =
    let parts : labels ≡ labels' = same_parts is.parts (subst (λ (t : List ℕ). HasParts t labels') (sym texts) also.parts) in
    let known : origin ≡ origin' = cc in
    λ i. parts i ++ known i
