-- The suffixes of a name, added one after another.
use Rattle.std.proofs.Common.{◌≡◌, ◌≤◌, ◌<◌, ◌+◌, ◌-◌, ◌*◌, ℕ, zero, suc, true, List, [], ◌∷◌, ◌++◌, length, take, drop, map, refl, sym, ◌∙◌, ap, subst, append_assoc, arith}
use Rattle.std.specs.Char.{to_ascii_lowercase}
use Rattle.std.proofs.Math.Nat.{mul-le-mul_left, suc-mul}
use Rattle.std.proofs.lemmas.List.{length-map, take-append-drop}
use Rattle.dns_octets.specs.Builder.{Standing, Known}
use Rattle.dns_label.specs.Name.{wire, low}
use Rattle.dns_name.specs.Spelling.{tree_spelling, hash_spelling, remembered_form, standings}
use Rattle.dns_name.proofs.Folding.{form-exact}
use Rattle.dns_compress.specs.Tables.{added, in_order}
use Rattle.dns_compress.proofs.InOrder.{in_order-front}

-- one label more
pub added-label : (count more place next stop : ℕ) (name : List (List ℕ)) (label : List ℕ) (parent : List (List ℕ)) → name ≡ label ∷ parent
    → more ≡ suc count → next ≡ place + 1 + length label
    → added tree_spelling more place stop name
    ≡ record { suffix = wire name; place = place; stop = stop } ∷ added tree_spelling count next stop parent
added-label count more place next stop name label parent is mores nexts =
    ap (λ n. added tree_spelling more place stop n) is
    ∙ ap (λ n. added tree_spelling n place stop (label ∷ parent)) mores
    ∙ ap (λ (l : List ℕ). record { suffix = l; place = place; stop = stop } ∷ added tree_spelling count (place + 1 + length label) stop parent)
    (form-exact tree_spelling (label ∷ take count parent ++ drop count parent) refl
    ∙ ap (λ (n : List (List ℕ)). wire (label ∷ n)) (take-append-drop count parent) ∙ ap wire (sym is))
    ∙ ap (λ n. record { suffix = wire name; place = place; stop = stop } ∷ added tree_spelling count n stop parent) (sym nexts)

module _ (known rest all : Known) (first : Standing) (is : all ≡ first ∷ rest) where
  one_more : (known ++ first ∷ []) ++ rest ≡ known ++ all
  one_more = append_assoc known (first ∷ []) rest ∙ ap (λ (l : Known). known ++ l) (sym is)

  pub order_first : in_order tree_spelling (known ++ all) ≡ true → in_order tree_spelling (known ++ first ∷ []) ≡ true
  order_first order =
      in_order-front tree_spelling (known ++ first ∷ []) rest (subst (λ (l : Known). in_order tree_spelling l ≡ true) (sym one_more) order)

  pub order_rest : (new : Known) → new ≡ known ++ first ∷ [] → in_order tree_spelling (known ++ all) ≡ true
      → in_order tree_spelling (new ++ rest) ≡ true
  order_rest new now order =
      subst (λ (l : Known). in_order tree_spelling l ≡ true) (sym one_more ∙ ap (λ (l : Known). l ++ rest) (sym now)) order

  pub all_added : (new : Known) → new ≡ known ++ first ∷ [] → new ++ rest ≡ known ++ all
  all_added new now = ap (λ (l : Known). l ++ rest) now ∙ one_more

-- if case makes no difference, a name's suffixes are those of the name in lower case
lowered_suffix : (name : List (List ℕ)) → remembered_form hash_spelling name ≡ remembered_form tree_spelling (low name)
lowered_suffix name = sym (form-exact tree_spelling (low name) refl)

lowered_standings : (place stop : ℕ) (labels suffix : List (List ℕ))
    → standings hash_spelling place stop labels suffix ≡ standings tree_spelling place stop (low labels) (low suffix)
lowered_standings place stop [] suffix = refl
lowered_standings place stop (label ∷ labels) suffix =
    ap (λ (l : List ℕ). record { suffix = l; place = place; stop = stop } ∷ standings hash_spelling (place + 1 + length label) stop labels suffix)
    (lowered_suffix (label ∷ labels ++ suffix) ∙ ap (λ (n : List (List ℕ)). remembered_form tree_spelling (map to_ascii_lowercase label ∷ n)) (low-append labels suffix))
    ∙ ap (λ n. record { suffix = remembered_form tree_spelling (low (label ∷ labels) ++ low suffix); place = place; stop = stop } ∷ n)
    (lowered_standings (place + 1 + length label) stop labels suffix
    ∙ ap (λ n. standings tree_spelling (place + 1 + n) stop (low labels) (low suffix)) (sym (length-map label to_ascii_lowercase)))
  where
    low-append : (labels suffix : List (List ℕ)) → low (labels ++ suffix) ≡ low labels ++ low suffix
    low-append [] suffix = refl
    low-append (label ∷ labels) suffix = ap (λ (n : List (List ℕ)). map to_ascii_lowercase label ∷ n) (low-append labels suffix)

low-take : (count : ℕ) (name : List (List ℕ)) → low (take count name) ≡ take count (low name)
low-take zero name = refl
low-take (suc count) [] = refl
low-take (suc count) (label ∷ parent) = ap (λ (n : List (List ℕ)). map to_ascii_lowercase label ∷ n) (low-take count parent)

low-drop : (count : ℕ) (name : List (List ℕ)) → low (drop count name) ≡ drop count (low name)
low-drop zero name = refl
low-drop (suc count) [] = refl
low-drop (suc count) (label ∷ parent) = low-drop count parent

pub added-lowered : (count place stop : ℕ) (name : List (List ℕ))
    → added hash_spelling count place stop name ≡ added tree_spelling count place stop (low name)
added-lowered count place stop name =
    lowered_standings place stop (take count name) (drop count name)
    ∙ ap (λ (l : List (List ℕ)). standings tree_spelling place stop l (low (drop count name))) (low-take count name)
    ∙ ap (λ (l : List (List ℕ)). standings tree_spelling place stop (take count (low name)) l) (low-drop count name)

-- room for the suffix, and for those of its parent
pub room_rest : (count long less : ℕ) → 0 < count → less ≤ long → long + (count - 1) * less ≤ count * long
room_rest zero long less some within = absurd (omega arith)
room_rest (suc count) long less some within =
    let one : suc count - 1 ≡ count = omega arith in
    omega (arith, ap (λ n. n * less) one, mul-le-mul_left {m = less} {n = long} count within, suc-mul count long)
