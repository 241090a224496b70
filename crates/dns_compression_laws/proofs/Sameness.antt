-- Sameness of names: an equivalence that parents follow.
use Rattle.std.proofs.Common.{◌≡◌, ℕ, Bool, true, false, List, [], ◌∷◌, length, map, refl, sym, ap, ◌∙◌}
use Rattle.std.specs.Prelude.{nat_eq}
use Rattle.std.specs.List.{AllByRecursion}
use Rattle.std.specs.Cmp.Lexicographic.{pointwise}
use lib.Pointwise.{pointwise_decides, bytes_decides}
use Rattle.dns_label.specs.Name.{IsLabel, wire}
use Rattle.dns_wire.proofs.Case.{wire_one, same_bool}
use Rattle.dns_name.specs.Spelling.{Spelling, folded, is_same, remembered_form}
use Rattle.dns_name.proofs.Folding.{length-folded, folded-form, form-exact, same_is, same_from}
use Rattle.dns_compression_laws.proofs.SameNames.{folded-wire}
use Rattle.dns_compression_laws.specs.Cost.{Sameness, same_name}

-- what the laws require of a sameness
pub record IsSameness (same : Sameness) : Type 0 where
  pub self : (a : List (List ℕ)) → same a a ≡ true
  pub turns : (a b : List (List ℕ)) → same a b ≡ same b a
  pub follows : (a b c : List (List ℕ)) → same a b ≡ true → same a c ≡ same b c
  pub parents : (l m : List ℕ) (p q : List (List ℕ)) → same (l ∷ p) (m ∷ q) ≡ true → (length l ≡ length m) × (same p q ≡ true)
  pub root : (m : List ℕ) (q : List (List ℕ)) → same [] (m ∷ q) ≡ false

names_decide : (a b : List (List ℕ)) → (pointwise (pointwise nat_eq) a b ≡ true → a ≡ b) × (a ≡ b → pointwise (pointwise nat_eq) a b ≡ true)
names_decide = pointwise_decides {E = pointwise nat_eq} bytes_decides

module _ (s : Spelling) where
  pub name_is : (a b : List (List ℕ)) → same_name s a b ≡ true → map (folded s) a ≡ map (folded s) b
  name_is a b = (names_decide (map (folded s) a) (map (folded s) b)).0

  pub name_from : (a b : List (List ℕ)) → map (folded s) a ≡ map (folded s) b → same_name s a b ≡ true
  name_from a b = (names_decide (map (folded s) a) (map (folded s) b)).1

  parents_follow : (l m : List ℕ) (p q : List (List ℕ)) → map (folded s) (l ∷ p) ≡ map (folded s) (m ∷ q)
      → (length l ≡ length m) × (map (folded s) p ≡ map (folded s) q)
  parents_follow l m p q e =
      let label : folded s l ≡ folded s m = cc in
      let parent : map (folded s) p ≡ map (folded s) q = cc in
      (sym (length-folded s l) ∙ ap (length {A = ℕ}) label ∙ length-folded s m, parent)

  pub sameness : IsSameness (same_name s)
  sameness = record {
    self = λ a. name_from a a refl;
    turns = λ a b. same_bool (same_name s a b) (same_name s b a) (λ e. name_from b a (sym (name_is a b e))) (λ e. name_from a b (sym (name_is b a e)));
    follows = λ a b c e. same_bool (same_name s a c) (same_name s b c)
        (λ x. name_from b c (sym (name_is a b e) ∙ name_is a c x))
        (λ x. name_from a c (name_is a b e ∙ name_is b c x));
    parents = λ l m p q e.
        let both = parents_follow l m p q (name_is (l ∷ p) (m ∷ q) e) in
        (both.0, name_from p q both.1);
    root = λ m q. refl;
  }

-- If case is folded, each label of a name is a label: a length octet of 65 or more could be taken for a letter.
abbrev pub Proper : Bool → List (List ℕ) → Type 0
Proper true name = AllByRecursion IsLabel name
Proper false name = Unit {0}

pub proper_parent : (folds : Bool) (label : List ℕ) (parent : List (List ℕ)) → Proper folds (label ∷ parent) → Proper folds parent
proper_parent true label parent proper = proper.1
proper_parent false label parent proper = tt

pub proper_from : (folds : Bool) (name : List (List ℕ)) → AllByRecursion IsLabel name → Proper folds name
proper_from true name labels = labels
proper_from false name labels = tt

-- a proper name's octets are folded label by label
proper-wire : (s : Spelling) (name : List (List ℕ)) → Proper s.folds name → folded s (wire name) ≡ remembered_form s name
proper-wire s name = by_case s.folds refl
  where
    by_case : (folds : Bool) → s.folds ≡ folds → Proper folds name → folded s (wire name) ≡ remembered_form s name
    by_case true is labels = folded-wire s name labels
    by_case false is labels =
        let here : folded s (wire name) ≡ wire name = rw is refl in
        here ∙ sym (form-exact s name is)

-- the remembered form of a suffix equals a name's octets if the names are the same
pub is_same-form : (s : Spelling) (a b : List (List ℕ)) → Proper s.folds a → Proper s.folds b
    → is_same s (remembered_form s a) (wire b) ≡ same_name s a b
is_same-form s a b pa pb =
    let left : folded s (remembered_form s a) ≡ remembered_form s a = folded-form s a ∙ proper-wire s a pa in
    let right : folded s (wire b) ≡ remembered_form s b = proper-wire s b pb in
    same_bool (is_same s (remembered_form s a) (wire b)) (same_name s a b)
    (λ e. name_from s a b (wire_one (map (folded s) a) (map (folded s) b) (sym left ∙ same_is s (remembered_form s a) (wire b) e ∙ right)))
    (λ e. same_from s (remembered_form s a) (wire b) (left ∙ ap wire (name_is s a b e) ∙ sym right))

-- if nothing is folded, the names are equal
pub exact_form : (s : Spelling) → s.folds ≡ false → (a b : List (List ℕ)) → is_same s (remembered_form s a) (wire b) ≡ true → a ≡ b
exact_form s exact a b same =
    let left : folded s (remembered_form s a) ≡ remembered_form s a = rw exact refl in
    let right : folded s (wire b) ≡ wire b = rw exact refl in
    wire_one a b (sym (form-exact s a exact) ∙ sym left ∙ same_is s (remembered_form s a) (wire b) same ∙ right)
