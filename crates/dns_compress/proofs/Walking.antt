-- A walk over the labels of a name finds where it splits.
use Rattle.std.proofs.Common.{◌≡◌, ◌+◌, ℕ, suc, Bool, true, false, Option, Some, None, List, [], ◌∷◌, length, take, refl, sym, ◌∙◌, ap, arith, length-append, subst}
use Rattle.std.specs.Prelude.{◌&&◌}
use Rattle.dns_octets.specs.Builder.{Known}
use Rattle.dns_label.specs.Name.{wire, labels_wire}
use Rattle.dns_name.specs.Spelling.{Spelling, is_near, place_in, may_stand, split_from, with_label}
use Rattle.dns_compress.specs.Walk.{IsWalked}

module _ (s : Spelling) (known : Known) (count place : ℕ) where
  root_walked : IsWalked s known count place [] 0 0 true None
  unfolding split_from
  root_walked = record { splits = refl; long = refl; reached = λ stop. refl; leads = refl }

  found_walked : (target : ℕ) (label : List ℕ) (parent : List (List ℕ)) → place_in s known (wire (label ∷ parent)) ≡ Some target
      → IsWalked s known count place (label ∷ parent) 0 0 true (Some target)
  unfolding split_from
  found_walked target label parent is = record {
    splits = rw is refl;
    long = refl;
    reached = λ stop. refl;
    leads = sym is;
  }

  full_walked : (label : List ℕ) (parent : List (List ℕ)) → place_in s known (wire (label ∷ parent)) ≡ None
      → may_stand s count place ≡ false → IsWalked s known count place (label ∷ parent) 0 0 true None
  unfolding split_from
  full_walked label parent is full = record {
    splits = rw (is, full) refl;
    long = refl;
    reached = λ stop. refl;
    leads = sym is;
  }

  label_walked : (labels front : ℕ) (near : Bool) (target : Option ℕ) (label : List ℕ) (parent : List (List ℕ))
      → place_in s known (wire (label ∷ parent)) ≡ None → may_stand s count place ≡ true
      → IsWalked s known (count + 1) (place + 1 + length label) parent labels front near target
      → IsWalked s known count place (label ∷ parent) (suc labels) (1 + length label + front) (is_near place && near) target
  unfolding split_from
  label_walked labels front near target label parent is there on = record {
    splits = rw (is, there) (ap (with_label label) on.splits);
    long = omega (arith, on.long, length-append label (labels_wire (take labels parent)));
    reached = λ stop. ap (λ b. is_near place && b) (on.reached stop);
    leads = on.leads;
  }

-- the same for a name whose beginning is known
module _ (s : Spelling) (known : Known) (count place : ℕ) (name : List (List ℕ)) where
  pub walked_root : name ≡ [] → IsWalked s known count place name 0 0 true None
  walked_root is = subst (λ n. IsWalked s known count place n 0 0 true None) (sym is) (root_walked s known count place)

  module _ (label : List ℕ) (parent : List (List ℕ)) (is : name ≡ label ∷ parent) where
    pub walked_found : (target : ℕ) → place_in s known (wire name) ≡ Some target → IsWalked s known count place name 0 0 true (Some target)
    walked_found target found =
        subst (λ n. IsWalked s known count place n 0 0 true (Some target)) (sym is)
        (found_walked s known count place target label parent (ap (λ n. place_in s known (wire n)) (sym is) ∙ found))

    pub walked_full : place_in s known (wire name) ≡ None → may_stand s count place ≡ false → IsWalked s known count place name 0 0 true None
    walked_full none full =
        subst (λ n. IsWalked s known count place n 0 0 true None) (sym is)
        (full_walked s known count place label parent (ap (λ n. place_in s known (wire n)) (sym is) ∙ none) full)

    pub walked_label : (labels front next at more octets : ℕ) (near : Bool) (target : Option ℕ)
        → next ≡ count + 1 → at ≡ place + 1 + length label → more ≡ suc labels → octets ≡ 1 + length label + front
        → place_in s known (wire name) ≡ None → may_stand s count place ≡ true
        → IsWalked s known next at parent labels front near target
        → IsWalked s known count place name more octets (is_near place && near) target
    walked_label labels front next at more octets near target counts stands_at mores long none there on =
        let here : IsWalked s known (count + 1) (place + 1 + length label) parent labels front near target =
        subst (λ n. IsWalked s known n (place + 1 + length label) parent labels front near target) counts
        (subst (λ n. IsWalked s known next n parent labels front near target) stands_at on) in
        let whole : IsWalked s known count place (label ∷ parent) (suc labels) (1 + length label + front) (is_near place && near) target =
        label_walked s known count place labels front near target label parent (ap (λ n. place_in s known (wire n)) (sym is) ∙ none) there here in
        subst (λ n. IsWalked s known count place n more octets (is_near place && near) target) (sym is)
        (subst (λ n. IsWalked s known count place (label ∷ parent) n octets (is_near place && near) target) (sym mores)
        (subst (λ n. IsWalked s known count place (label ∷ parent) (suc labels) n (is_near place && near) target) (sym long) whole))
