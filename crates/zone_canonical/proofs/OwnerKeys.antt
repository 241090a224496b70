-- The key of an owner under the apex, before it, and after the names under it.
use Rattle.std.proofs.Common.{◌≡◌, ℕ, ◌+◌, ◌-◌, ◌^◌, List, [], ◌∷◌, ◌++◌, reverse, length, true, false, refl, sym, ap, ◌∙◌, arith}
use Rattle.std.specs.Ordering.{is_lt}
use Rattle.std.specs.declared.cmp.Ordering.{Ordering}
use Rattle.std.specs.declared.cmp.Ordering.TheVariants.{Less, Equal, Greater}
use Rattle.std.proofs.lemmas.List.{reverse-append, reverse-reverse}
use Rattle.dns_label.specs.Name.{low, labels_wire}
use Rattle.dns_wire.specs.Order.{labels_order}
use Rattle.dns_wire.specs.Parts.{IsBetween, IsFront}
use Rattle.dns_wire.specs.Suffix.{EndsWith}
use Rattle.dns_flat.proofs.PartForms.{Stripped, strip_rest}
use Rattle.zone_canonical.specs.OwnerKey.{front_key, key_from, key_of}
use Rattle.zone_canonical.proofs.KeyDigits.{from_right, right_front}
use Rattle.zone_canonical.proofs.KeyOrder as keys

no_front : (front : List (List ℕ)) → 0 ≡ length (labels_wire front) → front ≡ []
no_front [] is = refl
no_front (label ∷ front) is = absurd (omega arith)

front_of : (labels part : List (List ℕ)) (place : ℕ) → IsBetween labels 0 place part → IsFront labels place part
front_of labels part place between = record {
  back = between.back;
  whole = between.whole ∙ ap (λ l. l ++ (part ++ between.back)) (no_front between.front between.from);
  at = between.to ∙ omega arith;
}

-- under the apex
pub under : (owner apex part : List (List ℕ)) (place : ℕ) → Stripped owner apex → place + length (labels_wire apex) ≡ length (labels_wire owner)
    → IsBetween owner 0 place part → front_key (from_right part) ≡ key_of apex owner
under owner apex part place strip at between =
    let rest = strip_rest strip at (front_of owner part place between) in
    let whole : from_right owner ≡ from_right apex ++ from_right part =
    ap from_right rest.1 ∙ right_front part rest.0 ∙ ap (λ l. reverse l ++ from_right part) rest.2 in
    sym (ap (key_from (from_right apex)) whole ∙ keys.key_under (from_right apex) (from_right part))

is_less : (order : Ordering) → true ≡ is_lt order → order ≡ Less
is_less Less below = refl
is_less Equal below = absurd (let e : true ≡ false = below in cc)
is_less Greater below = absurd (let e : true ≡ false = below in cc)

-- before the apex
pub before : (owner apex : List (List ℕ)) → true ≡ is_lt (labels_order owner apex) → 0 ≡ key_of apex owner
before owner apex below = sym (keys.key_before (from_right apex) (from_right owner) (is_less (labels_order owner apex) below))

ends : (owner apex front : List (List ℕ)) → from_right owner ≡ from_right apex ++ front → EndsWith (low owner) (low apex)
ends owner apex front is = record {
  front = reverse front;
  whole_is =
      sym (reverse-reverse (low owner)) ∙ ap reverse is ∙ reverse-append (from_right apex) front
      ∙ ap (λ l. reverse front ++ l) (reverse-reverse (low apex));
}

-- after the names under the apex
pub after : (owner apex : List (List ℕ)) → false ≡ is_lt (labels_order owner apex) → (EndsWith (low owner) (low apex) → ⊥)
    → 2 ^ 128 - 1 ≡ key_of apex owner
after owner apex not apart =
    sym (keys.key_after (from_right apex) (from_right owner)
    (λ less. let e : false ≡ true = not ∙ ap is_lt less in cc)
    (λ front is. apart (ends owner apex front is)))
