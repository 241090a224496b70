-- The text of a list is that of one list of items.
use Rattle.std.proofs.Common.{◌≡◌, ◌≢◌, ◌==◌, ◌||◌, cond, ℕ, Bool, true, false, List, [], ◌∷◌, ◌++◌, refl, sym, ◌∙◌, ap, subst, append-nil, arith}
use Rattle.std.proofs.lemmas.Bool.Decides.{nat_tests}
use Rattle.std.specs.Prelude.{Option, None, Some}
use Rattle.std.specs.List.{AllZip, flat_map}
use Rattle.dns_service_parameters.specs.ServiceRead.{other_items}
use Rattle.dns_service_parameters.specs.ServiceText.{SpellsEach, item_octet, list_text}

-- the first octet of an item
abbrev marked : Bool → ℕ → List ℕ
marked test c = cond test (92 ∷ c ∷ []) (c ∷ [])

first_octet : (c d : ℕ) (xs ys more others : List ℕ) (a b : Bool) → ((c == 44) || (c == 92)) ≡ a → ((d == 44) || (d == 92)) ≡ b
    → (marked a c ++ xs) ++ more ≡ (marked b d ++ ys) ++ others → (c ≡ d) × (xs ++ more ≡ ys ++ others)
first_octet c d xs ys more others true true is also same = (cc, cc)
first_octet c d xs ys more others true false is also same = let mark : 92 ≡ d = cc in absurd (grind (arith, nat_tests))
first_octet c d xs ys more others false true is also same = let mark : c ≡ 92 = cc in absurd (grind (arith, nat_tests))
first_octet c d xs ys more others false false is also same = (cc, cc)

no_octet : (c : ℕ) (xs more : List ℕ) (others : Option (List ℕ)) (a : Bool) → ((c == 44) || (c == 92)) ≡ a → other_items others ≡ (marked a c ++ xs) ++ more → ⊥
no_octet c xs more None true is same = cc
no_octet c xs more None false is same = cc
no_octet c xs more (Some rest) true is same = let mark : ◌≡◌ {A = ℕ} 44 92 = cc in omega (arith, mark)
no_octet c xs more (Some rest) false is same = let mark : 44 ≡ c = cc in absurd (grind (arith, nat_tests))

-- an item, and what is behind it
pub one_item : (x y : List ℕ) (more others : Option (List ℕ)) → flat_map item_octet x ++ other_items more ≡ flat_map item_octet y ++ other_items others
    → (x ≡ y) × (more ≡ others)
one_item [] [] None None same = (refl, refl)
one_item [] [] None (Some rest) same = absurd (cc)
one_item [] [] (Some rest) None same = absurd (cc)
one_item [] [] (Some rest) (Some left) same = let is : rest ≡ left = cc in (refl, ap Some is)
one_item [] (d ∷ y) more others same = absurd (no_octet d (flat_map item_octet y) (other_items others) more ((d == 44) || (d == 92)) refl same)
one_item (c ∷ x) [] more others same = absurd (no_octet c (flat_map item_octet x) (other_items more) others ((c == 44) || (c == 92)) refl (sym same))
one_item (c ∷ x) (d ∷ y) more others same =
    let first = first_octet c d (flat_map item_octet x) (flat_map item_octet y) (other_items more) (other_items others) ((c == 44) || (c == 92))
    ((d == 44) || (d == 92)) refl refl same in
    let behind = one_item x y more others first.1 in
    (λ i. first.0 i ∷ behind.0 i, behind.1)

-- an item, as far as it is read
pub item_begins : (done string left : List ℕ) (others : Option (List ℕ)) → flat_map item_octet done ++ left ≡ flat_map item_octet string ++ other_items others
    → (more : List ℕ) × (string ≡ done ++ more) × (left ≡ flat_map item_octet more ++ other_items others)
item_begins [] string left others same = (string, refl, same)
item_begins (c ∷ done) [] left others same =
    absurd (no_octet c (flat_map item_octet done) left others ((c == 44) || (c == 92)) refl (sym same))
item_begins (c ∷ done) (d ∷ string) left others same =
    let first = first_octet c d (flat_map item_octet done) (flat_map item_octet string) left (other_items others) ((c == 44) || (c == 92))
    ((d == 44) || (d == 92)) refl refl same in
    let behind = item_begins done string left others first.1 in
    (behind.0, (λ i. sym first.0 i ∷ behind.1 i), behind.2)

-- the items behind the first
abbrev pub text_behind : List (List ℕ) → Option (List ℕ)
text_behind [] = None
text_behind (item ∷ items) = Some (list_text (item ∷ items))

pub list_split : (item : List ℕ) (items : List (List ℕ)) → list_text (item ∷ items) ≡ flat_map item_octet item ++ other_items (text_behind items)
list_split item [] = sym (append-nil (flat_map item_octet item))
list_split item (next ∷ items) = refl

pub list_one : (xs ys : List (List ℕ)) → xs ≢ [] → ys ≢ [] → list_text xs ≡ list_text ys → xs ≡ ys
list_one [] ys some also same = absurd (some refl)
list_one (x ∷ xs) [] some also same = absurd (also refl)
list_one (x ∷ xs) (y ∷ ys) some also same =
    let first = one_item x y (text_behind xs) (text_behind ys) (sym (list_split x xs) ∙ same ∙ list_split y ys) in
    let behind = others xs ys first.1 (list_one xs ys) in
    λ i. first.0 i ∷ behind i
  where
    others : (us vs : List (List ℕ)) → text_behind us ≡ text_behind vs → (us ≢ [] → vs ≢ [] → list_text us ≡ list_text vs → us ≡ vs) → us ≡ vs
    others [] [] is on = refl
    others [] (v ∷ vs) is on = absurd (cc)
    others (u ∷ us) [] is on = absurd (cc)
    others (u ∷ us) (v ∷ vs) is on = let texts : list_text (u ∷ us) ≡ list_text (v ∷ vs) = cc in on (λ none. cc) (λ none. cc) texts

-- the text is of one list, if that of each item is
module _ {A : Type 0} (Item : List ℕ → A → Type 0) (one : (text : List ℕ) (a b : A) → Item text a → Item text b → a ≡ b) where
  same_each : (items : List (List ℕ)) (xs ys : List A) → AllZip Item items xs → AllZip Item items ys → xs ≡ ys
  same_each [] [] [] is also = refl
  same_each [] [] (y ∷ ys) is also = absurd also
  same_each [] (x ∷ xs) ys is also = absurd is
  same_each (item ∷ items) [] ys is also = absurd is
  same_each (item ∷ items) (x ∷ xs) [] is also = absurd also
  same_each (item ∷ items) (x ∷ xs) (y ∷ ys) is also =
      let first = one item x y is.0 also.0 in let behind = same_each items xs ys is.1 also.1 in λ i. first i ∷ behind i

  some_items : (items : List (List ℕ)) (xs : List A) → xs ≢ [] → AllZip Item items xs → items ≢ []
  some_items [] [] some is none = some refl
  some_items [] (x ∷ xs) some is none = is
  some_items (item ∷ items) xs some is none = cc

  pub each_one : (text : List ℕ) (xs ys : List A) → xs ≢ [] → ys ≢ [] → SpellsEach Item text xs → SpellsEach Item text ys → xs ≡ ys
  each_one text xs ys some also is other =
      let items = list_one is.0 other.0 (some_items is.0 xs some is.2) (some_items other.0 ys also other.2) (sym is.1 ∙ other.1) in
      same_each other.0 xs ys (subst_items items is.2) other.2
    where
      subst_items : {us vs : List (List ℕ)} → us ≡ vs → AllZip Item us xs → AllZip Item vs xs
      subst_items same zip = subst (λ (l : List (List ℕ)). AllZip Item l xs) same zip
