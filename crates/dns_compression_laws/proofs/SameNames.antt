-- Names that a spelling takes as equal.
use Rattle.std.proofs.Common.{◌≡◌, ◌≤◌, ℕ, Bool, true, false, List, [], ◌∷◌, ◌++◌, length, map, refl, sym, ◌∙◌, ap, arith}
use Rattle.std.specs.Prelude.{if◌then◌else◌}
use Rattle.std.specs.List.{AllByRecursion}
use Rattle.std.specs.Char.{to_ascii_lowercase}
use Rattle.std.proofs.lemmas.List.{length-map}
use Rattle.dns_label.specs.Name.{IsLabel, IsName, wire}
use Rattle.dns_name.specs.Spelling.{Spelling, folded, is_same, remembered_form}
use Rattle.dns_wire.proofs.Case.{low_length, wire_one}
use Rattle.dns_name.proofs.Folding.{same_is, folded-append, folded-form, length-folded}

folded_length : (s : Spelling) (n : ℕ) → n ≤ 63 → folded s (n ∷ []) ≡ n ∷ []
folded_length s n few = by_case s.folds
  where
    by_case : (folds : Bool) → (if folds then map to_ascii_lowercase (n ∷ []) else n ∷ []) ≡ n ∷ []
    by_case true = ap (λ m. m ∷ []) (low_length n few)
    by_case false = refl

-- a name is folded label by label
pub folded-wire : (s : Spelling) (name : List (List ℕ)) → AllByRecursion IsLabel name → folded s (wire name) ≡ remembered_form s name
folded-wire s [] labels = folded_length s 0 (omega arith)
folded-wire s (label ∷ parent) labels =
    folded-append s (length label ∷ []) (label ++ wire parent)
    ∙ ap (λ (l : List ℕ). l ++ folded s (label ++ wire parent)) (folded_length s (length label) labels.0.short)
    ∙ ap (λ (l : List ℕ). length label ∷ l) (folded-append s label (wire parent) ∙ ap (λ (l : List ℕ). folded s label ++ l) (folded-wire s parent labels.1))
    ∙ ap (λ n. n ∷ folded s label ++ remembered_form s parent) (sym (length-folded s label))

-- a remembered suffix that equals a name is that name, as the spelling compares them
pub same_names : (s : Spelling) (suffix : List ℕ) (remembered name : List (List ℕ)) → suffix ≡ remembered_form s remembered
    → AllByRecursion IsLabel remembered → AllByRecursion IsLabel name → is_same s suffix (wire name) ≡ true
    → map (folded s) name ≡ map (folded s) remembered
same_names s suffix remembered name is labels others same =
    wire_one (map (folded s) name) (map (folded s) remembered)
    (sym (folded-wire s name others)
    ∙ sym (same_is s suffix (wire name) same)
    ∙ ap (folded s) is
    ∙ folded-form s remembered
    ∙ folded-wire s remembered labels)

pub length-same : (s : Spelling) (name other : List (List ℕ)) → map (folded s) name ≡ map (folded s) other → length name ≡ length other
length-same s name other same =
    sym (length-map name (folded s)) ∙ ap (length {A = List ℕ}) same ∙ length-map other (folded s)

-- what equals a label is one
pub same_label : (s : Spelling) (text label : List ℕ) → is_same s text label ≡ true → IsLabel label → IsLabel text
same_label s text label same is =
    let long = ap (length {A = ℕ}) (same_is s text label same) in
    record {
      some = omega (arith, long, length-folded s text, length-folded s label, is.some);
      short = omega (arith, long, length-folded s text, length-folded s label, is.short);
    }

-- and what equals a name is one
same_labels : (s : Spelling) (name other : List (List ℕ)) → map (folded s) name ≡ map (folded s) other → AllByRecursion IsLabel name
    → AllByRecursion IsLabel other
same_labels s name [] same labels = tt
same_labels s [] (label ∷ other) same labels = absurd (omega (arith, ap (length {A = List ℕ}) same))
same_labels s (text ∷ name) (label ∷ other) same labels =
    let here : folded s text ≡ folded s label = cc in
    let rest : map (folded s) name ≡ map (folded s) other = cc in
    let long = ap (length {A = ℕ}) here in (
      record {
        some = omega (arith, long, length-folded s text, length-folded s label, labels.0.some);
        short = omega (arith, long, length-folded s text, length-folded s label, labels.0.short);
      },
      same_labels s name other rest labels.1,
    )

length-form : (s : Spelling) (name : List (List ℕ)) → AllByRecursion IsLabel name → length (remembered_form s name) ≡ length (wire name)
length-form s name labels = sym (ap (length {A = ℕ}) (folded-wire s name labels)) ∙ length-folded s (wire name)

pub same_name : (s : Spelling) (name other : List (List ℕ)) → map (folded s) name ≡ map (folded s) other → IsName name → IsName other
same_name s name other same is =
    let labels = same_labels s name other same is.labels in
    record {
      labels = labels;
      short = omega (arith, is.short, length-form s name is.labels, length-form s other labels, ap (λ (n : List (List ℕ)). length (wire n)) same);
    }
