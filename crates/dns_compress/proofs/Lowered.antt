-- Suffixes that are kept and looked up in lower case.
use Rattle.std.proofs.Common.{◌≡◌, ℕ, Bool, true, false, List, [], ◌∷◌, map, refl, sym, ◌∙◌, ap}
use Rattle.std.specs.Prelude.{nat_eq}
use Rattle.std.specs.Char.{to_ascii_lowercase}
use Rattle.std.specs.Coded.{Coded-set, coded_ℕ, coded_option}
use Rattle.std.specs.Cmp.Lexicographic.{pointwise}
use mathlib.Core.Logic.{∥∥₁_elim}
use Rattle.dns_octets.specs.Builder.{Standing, Known}
use Rattle.dns_label.specs.Name.{IsName, wire, low}
use Rattle.dns_wire.proofs.Case.{low_wire}
use Rattle.dns_name.specs.Spelling.{Spelling, tree_spelling, hash_spelling, is_same, place_in}
use Rattle.dns_name.specs.Remembered.{IsKnown, StandsIn, IsSound}
use Rattle.dns_name.specs.Remembered.IsKnown.{first, later}
use Rattle.dns_name.proofs.Folding.{folded-form}

-- looked up in two ways that take the same suffixes as equal
place_alike : (s t : Spelling) (known : Known) (one other : List ℕ)
    → ((standing : Standing) → IsKnown standing known → is_same s standing.suffix one ≡ is_same t standing.suffix other)
    → place_in s known one ≡ place_in t known other
place_alike s t [] one other alike = refl
place_alike s t (standing ∷ known) one other alike =
    by_test (is_same t standing.suffix other) (alike standing first) refl (place_alike s t known one other (λ next is. alike next (later is)))
  where
    by_test : (test : Bool) → is_same s standing.suffix one ≡ test → is_same t standing.suffix other ≡ test
        → place_in s known one ≡ place_in t known other → place_in s (standing ∷ known) one ≡ place_in t (standing ∷ known) other
    by_test true is are on = rw (is, are) refl
    by_test false is are on = rw (is, are) on

alike_lowered : (known : Known) (octets : List ℕ) (name : List (List ℕ)) (standing : Standing) → StandsIn hash_spelling known octets standing → IsName name
    → is_same tree_spelling standing.suffix (wire (low name)) ≡ is_same hash_spelling standing.suffix (wire name)
alike_lowered known octets name standing stands is_name =
    let kept : map to_ascii_lowercase standing.suffix ≡ standing.suffix =
    ap (map to_ascii_lowercase) stands.suffix_is ∙ folded-form hash_spelling stands.name ∙ low_wire stands.name stands.is_name.labels
    ∙ sym stands.suffix_is in
    ap (λ (l : List ℕ). pointwise nat_eq l (wire (low name))) (sym kept)
    ∙ ap (λ (l : List ℕ). pointwise nat_eq (map to_ascii_lowercase standing.suffix) l) (sym (low_wire name is_name.labels))

pub place_lowered : {octets : List ℕ} (known : Known) (name : List (List ℕ)) → ∥ IsSound hash_spelling known octets ∥₁ → IsName name
    → place_in tree_spelling known (wire (low name)) ≡ place_in hash_spelling known (wire name)
place_lowered {octets} known name sound is_name =
    ∥∥₁_elim sound (Coded-set (coded_option coded_ℕ) _ _) (λ sound.
    place_alike tree_spelling hash_spelling known (wire (low name)) (wire name)
    (λ standing is. alike_lowered known octets name standing (sound.each standing is) is_name))
