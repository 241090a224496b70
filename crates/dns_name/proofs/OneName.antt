-- A text spells one name.
use Rattle.std.proofs.Common.{◌≡◌, ℕ, List, [], ◌∷◌, ◌++◌, length, refl, sym, ◌∙◌, ap, subst, arith}
use Rattle.std.specs.List.{AllByRecursion}
use Rattle.dns_label.specs.declared.symbol.Symbol.TheVariants.{Char}
use Rattle.dns_label.specs.Name.{IsLabel, IsName}
use Rattle.dns_label.specs.NameText.{HasParts, IsAbsoluteText, IsRelativeText, IsNameText, IsRelativeNameText}
use Rattle.dns_label.specs.NameText.IsAbsoluteText.{root, labels as dotted}
use Rattle.dns_label.specs.NameText.IsNameText.{absolute, relative}
use Rattle.dns_label.specs.NameText.IsRelativeNameText.{empty, labels}
use Rattle.dns_flat.proofs.Chains.{never_rooted}
use Rattle.dns_wire.proofs.Parts.{parts_one}
use Rattle.dns_wire.proofs.Wire.{last_same}

one_parts : {text : List ℕ} {parts others : List (List ℕ)} → HasParts text parts → HasParts text others → parts ≡ others
one_parts {parts = parts} {others = others} has other =
    let P : List ℕ → Type 0 = λ t. HasParts t others in
    sym (parts_one has.symbols has.each others (subst P has.written other) ∙ has.between)

-- the text that is a dot, and the empty text
dot_parts : {text : List ℕ} → text ≡ 46 ∷ [] → HasParts text ([] ∷ [] ∷ [])
dot_parts is = record { symbols = Char 46 ∷ []; each = (((omega arith, omega arith), λ same. omega arith), tt); written = is; between = refl }

no_parts : {text : List ℕ} → text ≡ [] → HasParts text ([] ∷ [])
no_parts is = record { symbols = []; each = tt; written = is; between = refl }

-- these are no labels
empty_first : {parts : List (List ℕ)} (names : List (List ℕ)) → AllByRecursion IsLabel names → names ≡ [] ∷ parts → ⊥
empty_first [] each is = cc
empty_first (label ∷ names) each is =
    let e : label ≡ [] = cc in omega (arith, each.0.some, ap (length {A = ℕ}) e)

dot_absolute : {text : List ℕ} (name : List (List ℕ)) → text ≡ 46 ∷ [] → HasParts text (name ++ [] ∷ []) → IsName name → ⊥
dot_absolute name dot has is_name =
    empty_first name is_name.labels (last_same name ([] ∷ []) [] [] (one_parts has (dot_parts dot))).0

pub one_absolute : {text : List ℕ} {name other : List (List ℕ)} → IsAbsoluteText text name → IsAbsoluteText text other → name ≡ other
one_absolute (root dot) (root again) = refl
one_absolute (root dot) (dotted {name = other} some has is_name) = absurd (dot_absolute other dot has is_name)
one_absolute (dotted {name = name} some has is_name) (root dot) = absurd (dot_absolute name dot has is_name)
one_absolute (dotted {name = name} some has is_name) (dotted {name = other} more too is_other) =
    (last_same name other [] [] (one_parts has too)).0

pub last_dot_apart : {text : List ℕ} {name other : List (List ℕ)} → IsAbsoluteText text name → IsRelativeText text other → ⊥
last_dot_apart {other = other} (root dot) is = empty_first other is.each (one_parts is.parts (dot_parts dot))
last_dot_apart {other = other} (dotted {name = name} some has is_name) is =
    let P : List (List ℕ) → Type 0 = λ l. AllByRecursion IsLabel l in
    never_rooted name (subst P (one_parts is.parts has) is.each)

pub one_name : {text : List ℕ} {name other : List (List ℕ)} → IsNameText text name → IsNameText text other → name ≡ other
one_name (absolute is) (absolute are) = one_absolute is are
one_name (absolute is) (relative are is_other) = absurd (last_dot_apart is are)
one_name (relative is is_name) (absolute are) = absurd (last_dot_apart are is)
one_name (relative is is_name) (relative are is_other) = one_parts is.parts are.parts

-- a relative name, of the empty text too
no_text_apart : {text : List ℕ} {name : List (List ℕ)} → text ≡ [] → IsRelativeText text name → ⊥
no_text_apart {name = name} none is = empty_first name is.each (one_parts is.parts (no_parts none))

pub one_relative : {text : List ℕ} {name other : List (List ℕ)} → IsRelativeNameText text name → IsRelativeNameText text other → name ≡ other
one_relative (empty none) (empty again) = refl
one_relative (empty none) (labels is is_name) = absurd (no_text_apart none is)
one_relative (labels is is_name) (empty none) = absurd (no_text_apart none is)
one_relative (labels is is_name) (labels are is_other) = one_parts is.parts are.parts

pub relative_apart : {text : List ℕ} {name other : List (List ℕ)} → IsRelativeNameText text name → IsAbsoluteText text other → ⊥
relative_apart (empty none) (root dot) = let e : ◌≡◌ {A = List ℕ} (46 ∷ []) [] = sym dot ∙ none in cc
relative_apart (empty none) (dotted {name = other} some has is_other) =
    let e = (last_same other [] [] [] (one_parts has (no_parts none))).0 in omega (arith, ap (length {A = List ℕ}) e)
relative_apart (labels is is_name) are = last_dot_apart are is
