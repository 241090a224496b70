-- What a target that remembers one suffix writes, and what it keeps.
use Rattle.std.proofs.Common.{◌≡◌, ◌≤◌, ◌<◌, ◌+◌, ◌-◌, ℕ, ◌⊎◌, Bool, true, false, ◌&&◌, Option, Some, None, List, [], ◌∷◌, ◌++◌, length, map, take, drop, refl, sym, ◌∙◌, ap, subst, arith, inl, inr, length-append}
use Rattle.std.specs.Prelude.{slice_range, nat_eq, nat_lt, nat_le, is_some, if◌then◌else◌}
use Rattle.std.specs.Cmp.Lexicographic.{pointwise}
use Rattle.std.specs.Coded.{Coded-set, coded_ℕ, coded_list, le_prop}
use Rattle.std.proofs.lemmas.Bool.{lt-ltb, le-ltb, leb-true, ltb-true, ltb-false}
use Rattle.std.proofs.lemmas.List.{append-nil, take_at, drop_at}
use mathlib.Core.Logic.{∥∥₁_elim, ∥∥₁_map}
use Rattle.dns_octets.specs.Builder.{Standing, Known, before}
use Rattle.dns_label.specs.Name.{IsName, wire}
use Rattle.dns_name.specs.Spelling.{Split, folded, is_same, remembered_form, place_in, split_from, suffix_text, split_text, standings, name_text, if_near, known_after, is_near, pointer_to}
use Rattle.dns_name.specs.Remembered.{IsKnown, HasText, StandsIn, IsSound, sound_none, is_free, patched}
use Rattle.dns_name.specs.Remembered.IsKnown.{first, later}
use Rattle.dns_name_tests.specs.OneSuffix.{one_suffix, remembered, within, standing_at}
use Rattle.dns_wire.proofs.Case.{low_wire}
use Rattle.dns_name.proofs.Folding.{same_is, length-folded, folded-folded, form-exact}
use Rattle.dns_name.proofs.Known.{free_cases}
use Rattle.dns_name.proofs.Soundness.{merely-within, text-append, text-take, text-patch, IsSound-append, IsSound-before, IsSound-name, IsSound-patch}

-- a name is remembered as the spelling compares it
folded_wire : (folds : Bool) (name : List (List ℕ)) → IsName name → folded (one_suffix folds) (wire name) ≡ remembered_form (one_suffix folds) name
folded_wire true name is = low_wire name is.labels
folded_wire false name is = sym (form-exact (one_suffix false) name refl)

-- a name other than the root has more octets than the root
wire_long : (text : List ℕ) (name : List (List ℕ)) → 1 < length (wire (text ∷ name))
wire_long text [] = omega (arith, length-append text (0 ∷ []))
wire_long text (other ∷ name) = omega (arith, length-append text (wire (other ∷ name)))

-- a name that splits at once
abbrev pub unsplit : List (List ℕ) → Split
unsplit name = record { labels = []; suffix = name }

-- without room to remember more, the rest is a suffix

rest_split : (folds : Bool) (place : ℕ) (name : List (List ℕ)) → split_from (one_suffix folds) [] 1 place name ≡ unsplit name
unfolding split_from
rest_split folds place [] = refl
rest_split folds place (text ∷ name) = refl

full_suffix : (folds : Bool) (name : List (List ℕ)) → suffix_text (one_suffix folds) [] name ≡ wire name
full_suffix folds [] = refl
full_suffix folds (text ∷ name) = refl

-- the first name splits after its first label, or at once if no pointer reaches it

split_near : (folds : Bool) (place : ℕ) (text : List ℕ) (name : List (List ℕ)) → is_near place ≡ true
    → split_from (one_suffix folds) [] 0 place (text ∷ name) ≡ record { labels = text ∷ []; suffix = name }
unfolding split_from
split_near folds place text name near =
    rw near (ap (λ (split : Split). record { labels = text ∷ split.labels; suffix = split.suffix }) (rest_split folds (place + 1 + length text) name))

split_far : (folds : Bool) (place : ℕ) (name : List (List ℕ)) → is_near place ≡ false → split_from (one_suffix folds) [] 0 place name ≡ unsplit name
unfolding split_from
split_far folds place [] far = refl
split_far folds place (text ∷ name) far = rw far refl

-- it is written in full

text_near : (folds : Bool) (text : List ℕ) (name : List (List ℕ))
    → split_text (one_suffix folds) [] (record { labels = text ∷ []; suffix = name }) ≡ wire (text ∷ name)
text_near folds text name =
    ap (λ (l : List ℕ). length text ∷ l)
    (ap (λ (l : List ℕ). l ++ suffix_text (one_suffix folds) [] name) (append-nil text) ∙ ap (λ (l : List ℕ). text ++ l) (full_suffix folds name))

text_by : (folds : Bool) (place : ℕ) (text : List ℕ) (name : List (List ℕ)) (near : Bool) → is_near place ≡ near
    → name_text (one_suffix folds) [] place (text ∷ name) ≡ wire (text ∷ name)
unfolding name_text
text_by folds place text name true is = ap (split_text (one_suffix folds) []) (split_near folds place text name is) ∙ text_near folds text name
text_by folds place text name false is = ap (split_text (one_suffix folds) []) (split_far folds place (text ∷ name) is)

root_text : (folds : Bool) (known : Known) (place : ℕ) → name_text (one_suffix folds) known place [] ≡ wire []
unfolding name_text split_from
root_text folds known place = refl

pub one_none_text : (folds : Bool) (place : ℕ) (name : List (List ℕ)) → name_text (one_suffix folds) [] place name ≡ wire name
one_none_text folds place [] = root_text folds [] place
one_none_text folds place (text ∷ name) = text_by folds place text name (is_near place) refl

-- and it is remembered, unless it is the root or too far for a pointer

abbrev pub whole : Bool → ℕ → List ℕ → Known
whole folds place octets = record { suffix = folded (one_suffix folds) octets; place = place; stop = place + length octets } ∷ []

if_near-one : (standing : Standing) → is_near standing.place ≡ true → if_near (standing ∷ []) ≡ standing ∷ []
if_near-one standing near = rw near refl

-- what a name adds with this split
abbrev pub added_by : Bool → ℕ → Split → Known
added_by folds place split =
    if_near (standings (one_suffix folds) place (place + length (split_text (one_suffix folds) [] split)) split.labels split.suffix)

pub one_none_known : (folds : Bool) (place : ℕ) (name : List (List ℕ)) → IsName name → place < 16384 → 1 < length (wire name)
    → known_after (one_suffix folds) [] place name ≡ whole folds place (wire name)
unfolding known_after
one_none_known folds place [] is near long = absurd (omega arith)
one_none_known folds place (text ∷ name) is near long =
    let reached : is_near place ≡ true = lt-ltb place 16384 near in
    ap (added_by folds place) (split_near folds place text name reached) ∙ if_near-one _ reached
    ∙ ap (λ (l : List ℕ). record { suffix = remembered_form (one_suffix folds) (text ∷ name); place = place; stop = place + length l } ∷ []) (text_near folds text name)
    ∙ ap (λ suffix. record { suffix = suffix; place = place; stop = place + length (wire (text ∷ name)) } ∷ []) (sym (folded_wire folds (text ∷ name) is))

pub one_none_far : (folds : Bool) (place : ℕ) (name : List (List ℕ)) → 16384 ≤ place → known_after (one_suffix folds) [] place name ≡ []
unfolding known_after
one_none_far folds place name far = ap (added_by folds place) (split_far folds place name (le-ltb place 16384 far))

pub one_none_root : (folds : Bool) (place : ℕ) (name : List (List ℕ)) → length (wire name) ≤ 1 → known_after (one_suffix folds) [] place name ≡ []
unfolding known_after split_from
one_none_root folds place [] short = refl
one_none_root folds place (text ∷ name) short = absurd (omega (arith, wire_long text name))

-- if a suffix is remembered, no name is split: it is a pointer, or it is written in full

kept_split : (folds : Bool) (standing : Standing) (place : ℕ) (name : List (List ℕ))
    → split_from (one_suffix folds) (standing ∷ []) 1 place name ≡ unsplit name
unfolding split_from
kept_split folds standing place [] = refl
kept_split folds standing place (text ∷ name) = by_found (is_some (place_in (one_suffix folds) (standing ∷ []) (wire (text ∷ name))))
  where
    by_found : (found : Bool) → (if found then unsplit (text ∷ name) else unsplit (text ∷ name)) ≡ unsplit (text ∷ name)
    by_found true = refl
    by_found false = refl

pub one_known : (folds : Bool) (standing : Standing) (place : ℕ) (name : List (List ℕ))
    → known_after (one_suffix folds) (standing ∷ []) place name ≡ standing ∷ []
unfolding known_after
one_known folds standing place name =
    ap (λ (split : Split). standing ∷ if_near (standings (one_suffix folds) place
    (place + length (split_text (one_suffix folds) (standing ∷ []) split)) split.labels split.suffix)) (kept_split folds standing place name)

found_suffix : (folds : Bool) (standing : Standing) (name : List (List ℕ)) → is_same (one_suffix folds) standing.suffix (wire name) ≡ true
    → 1 < length standing.suffix → suffix_text (one_suffix folds) (standing ∷ []) name ≡ pointer_to standing.place
found_suffix folds standing [] same long =
    absurd (omega (
      arith,
      ap (length {A = ℕ}) (same_is (one_suffix folds) standing.suffix (0 ∷ []) same),
      length-folded (one_suffix folds) standing.suffix,
      length-folded (one_suffix folds) (0 ∷ []),
    ))
found_suffix folds standing (text ∷ name) same long = rw same refl

other_suffix : (folds : Bool) (standing : Standing) (name : List (List ℕ)) → is_same (one_suffix folds) standing.suffix (wire name) ≡ false
    → suffix_text (one_suffix folds) (standing ∷ []) name ≡ wire name
other_suffix folds standing [] other = refl
other_suffix folds standing (text ∷ name) other = rw other refl

kept_text : (folds : Bool) (standing : Standing) (place : ℕ) (name : List (List ℕ))
    → name_text (one_suffix folds) (standing ∷ []) place name ≡ suffix_text (one_suffix folds) (standing ∷ []) name
unfolding name_text
kept_text folds standing place name = ap (split_text (one_suffix folds) (standing ∷ [])) (kept_split folds standing place name)

pub one_found_text : (folds : Bool) (standing : Standing) (place : ℕ) (name : List (List ℕ)) → is_same (one_suffix folds) standing.suffix (wire name) ≡ true
    → 1 < length standing.suffix → name_text (one_suffix folds) (standing ∷ []) place name ≡ pointer_to standing.place
one_found_text folds standing place name same long = kept_text folds standing place name ∙ found_suffix folds standing name same long

pub one_other_text : (folds : Bool) (standing : Standing) (place : ℕ) (name : List (List ℕ)) → is_same (one_suffix folds) standing.suffix (wire name) ≡ false
    → name_text (one_suffix folds) (standing ∷ []) place name ≡ wire name
one_other_text folds standing place name other = kept_text folds standing place name ∙ other_suffix folds standing name other

-- what is remembered stays as long as its octets stay

slice_text : {octets : List ℕ} {place : ℕ} {text : List ℕ} (stop : ℕ) → place + length text ≡ stop → HasText octets place text
    → slice_range octets place stop ≡ text
slice_text {octets} {place} {text} stop stops there =
    ap (λ n. take n (drop place octets)) (omega arith)
    ∙ ap (take (length text)) (ap (drop place) there.whole ∙ drop_at there.front (text ++ there.back) place there.begins)
    ∙ take_at text there.back (length text) refl

module _ (folds : Bool) where
  pub remembered_kept : {octets : List ℕ} (new : List ℕ) (between : Option (ℕ × ℕ))
      → ∥ IsSound (one_suffix folds) (remembered folds octets between) octets ∥₁
      → ((standing : Standing) (text : List ℕ) → IsKnown standing (remembered folds octets between) → standing.place + length text ≡ standing.stop
      → HasText octets standing.place text → HasText new standing.place text)
      → remembered folds new between ≡ remembered folds octets between
  remembered_kept new None sound kept = refl
  remembered_kept {octets} new (Some between) sound kept =
      ap (λ octets. record { suffix = folded (one_suffix folds) octets; place = between.0; stop = between.1 } ∷ [])
      (∥∥₁_elim sound (Coded-set (coded_list coded_ℕ) _ _) same)
    where
      same : IsSound (one_suffix folds) (remembered folds octets (Some between)) octets → slice_range new between.0 between.1 ≡ slice_range octets between.0 between.1
      same sound =
          let stands = sound.each _ first in
          slice_text between.1 stands.stops (kept _ stands.text first stands.stops stands.there)
          ∙ sym (slice_text between.1 stands.stops stands.there)

  -- an append
  pub kept_append : {octets : List ℕ} (new tail : List ℕ) (between : Option (ℕ × ℕ)) → new ≡ octets ++ tail
      → ∥ IsSound (one_suffix folds) (remembered folds octets between) octets ∥₁ → remembered folds new between ≡ remembered folds octets between
  kept_append new tail between is sound =
      remembered_kept new between sound (λ standing text there stops has. subst (λ l. HasText l standing.place text) (sym is) (text-append tail has))

  pub sound_append : {octets : List ℕ} (new tail : List ℕ) (between : Option (ℕ × ℕ)) → new ≡ octets ++ tail
      → ∥ IsSound (one_suffix folds) (remembered folds octets between) octets ∥₁ → ∥ IsSound (one_suffix folds) (remembered folds new between) new ∥₁
  sound_append {octets} new tail between is sound =
      subst (λ l. ∥ IsSound (one_suffix folds) (remembered folds l between) l ∥₁) (sym is)
      (subst (λ (l : Known). ∥ IsSound (one_suffix folds) l (octets ++ tail) ∥₁) (sym (kept_append (octets ++ tail) tail between refl sound))
      (∥∥₁_map sound (λ sound. IsSound-append tail sound)))

  -- a name
  pub sound_name : {octets : List ℕ} (new : List ℕ) (between : Option (ℕ × ℕ)) {known : Known} (name : List (List ℕ)) → IsName name
      → new ≡ octets ++ name_text (one_suffix folds) known (length octets) name
      → remembered folds new between ≡ known_after (one_suffix folds) known (length octets) name
      → ∥ IsSound (one_suffix folds) known octets ∥₁ → ∥ IsSound (one_suffix folds) (remembered folds new between) new ∥₁
  sound_name {octets} new between {known} name is_name is knows sound =
      subst (λ (l : Known). ∥ IsSound (one_suffix folds) l new ∥₁) (sym knows)
      (subst (λ l. ∥ IsSound (one_suffix folds) (known_after (one_suffix folds) known (length octets) name) l ∥₁) (sym is)
      (∥∥₁_map sound (λ sound. IsSound-name name is_name sound)))

  -- a cut
  take_by : {octets : List ℕ} (len place stop : ℕ) (test : Bool) → nat_le stop len ≡ test
      → ∥ IsSound (one_suffix folds) (remembered folds octets (Some (place, stop))) octets ∥₁
      → remembered folds (take len octets) (if test then Some (place, stop) else None) ≡ before len (remembered folds octets (Some (place, stop)))
  take_by len place stop false is sound = rw is refl
  take_by {octets} len place stop true is sound =
      rw is (remembered_kept (take len octets) (Some (place, stop)) sound
      (λ standing text known stops there. text-take len (ends standing (length text) known stops) there))
    where
      ends : (standing : Standing) (long : ℕ) → IsKnown standing (remembered folds octets (Some (place, stop))) → standing.place + long ≡ standing.stop
          → standing.place + long ≤ len
      ends _ long first stops = omega (arith, leb-true stop len is)
      ends standing long (later known) stops = elim known [ ]

  pub kept_take : {octets : List ℕ} (new : List ℕ) (len : ℕ) (between : Option (ℕ × ℕ)) → new ≡ take len octets
      → ∥ IsSound (one_suffix folds) (remembered folds octets between) octets ∥₁
      → remembered folds new (within len between) ≡ before len (remembered folds octets between)
  kept_take new len None is sound = refl
  kept_take {octets} new len (Some (place, stop)) is sound =
      rw is (take_by len place stop (nat_le stop len) refl sound)

  pub sound_take : {octets : List ℕ} (new : List ℕ) (len : ℕ) (between after : Option (ℕ × ℕ)) → new ≡ take len octets
      → remembered folds new after ≡ before len (remembered folds octets between)
      → ∥ IsSound (one_suffix folds) (remembered folds octets between) octets ∥₁ → ∥ IsSound (one_suffix folds) (remembered folds new after) new ∥₁
  sound_take {octets} new len between after is knows sound =
      subst (λ (l : Known). ∥ IsSound (one_suffix folds) l new ∥₁) (sym knows)
      (subst (λ l. ∥ IsSound (one_suffix folds) (before len (remembered folds octets between)) l ∥₁) (sym is)
      (∥∥₁_map sound (λ sound. IsSound-before len sound)))

  -- a patch
  pub kept_patch : {octets : List ℕ} (new : List ℕ) (begin : ℕ) (over : List ℕ) (between : Option (ℕ × ℕ)) → new ≡ patched octets begin over → begin + length over ≤ length octets
      → is_free begin (begin + length over) (remembered folds octets between) ≡ true
      → ∥ IsSound (one_suffix folds) (remembered folds octets between) octets ∥₁
      → remembered folds new between ≡ remembered folds octets between
  kept_patch {octets} new begin over between is within free sound =
      remembered_kept new between sound
      (λ standing text known stops there. subst (λ l. HasText l standing.place text) (sym is)
      (text-patch begin over within (ends standing (length text) stops (free_cases begin (begin + length over) _ free standing known)) there))
    where
      ends : (standing : Standing) (long : ℕ) → standing.place + long ≡ standing.stop
          → (standing.stop ≤ begin) ⊎ (begin + length over ≤ standing.place)
          → (standing.place + long ≤ begin) ⊎ (begin + length over ≤ standing.place)
      ends standing long stops (inl front) = inl (omega arith)
      ends standing long stops (inr behind) = inr behind

  pub sound_patch : {octets : List ℕ} (new : List ℕ) (begin : ℕ) (over : List ℕ) (between : Option (ℕ × ℕ)) → new ≡ patched octets begin over
      → begin + length over ≤ length octets → is_free begin (begin + length over) (remembered folds octets between) ≡ true
      → ∥ IsSound (one_suffix folds) (remembered folds octets between) octets ∥₁ → ∥ IsSound (one_suffix folds) (remembered folds new between) new ∥₁
  sound_patch {octets} new begin over between is within free sound =
      subst (λ l. ∥ IsSound (one_suffix folds) (remembered folds l between) l ∥₁) (sym is)
      (subst (λ (l : Known). ∥ IsSound (one_suffix folds) l (patched octets begin over) ∥₁) (sym (kept_patch (patched octets begin over) begin over between refl within free sound))
      (∥∥₁_map sound (λ sound. IsSound-patch begin over within free sound)))

-- what is known of a remembered name

module _ (folds : Bool) {octets : List ℕ} {between : Option (ℕ × ℕ)} (at : ℕ × ℕ) (is : between ≡ Some at)
    (sound : ∥ IsSound (one_suffix folds) (remembered folds octets between) octets ∥₁) where
  abbrev the_one : Standing
  the_one = record { suffix = folded (one_suffix folds) (slice_range octets at.0 at.1); place = at.0; stop = at.1 }

  stands_at : {P : Type 0} → IsProp P → (StandsIn (one_suffix folds) (remembered folds octets (Some at)) octets the_one → P) → P
  stands_at prop shown =
      ∥∥₁_elim (subst (λ b. ∥ IsSound (one_suffix folds) (remembered folds octets b) octets ∥₁) is sound) prop (λ sound. shown (sound.each _ first))

  pub at_near : at.0 < 16384
  at_near = stands_at le_prop (λ stands. stands.near)

  pub at_order : at.0 ≤ at.1
  at_order = stands_at le_prop (λ stands. omega (arith, stands.stops))

  pub at_ends : at.1 ≤ length octets
  at_ends = merely-within (subst (λ b. ∥ IsSound (one_suffix folds) (remembered folds octets b) octets ∥₁) is sound) _ first

  at_long : 1 < length (folded (one_suffix folds) (slice_range octets at.0 at.1))
  at_long =
      stands_at le_prop (λ stands. subst (λ l. 1 < length l)
      (sym (stands.suffix_is ∙ ap (remembered_form (one_suffix folds)) stands.spelled.name_is))
      (wire_long (folded (one_suffix folds) stands.spelled.label) (map (folded (one_suffix folds)) stands.spelled.parent)))

  -- after a name is appended, it repeats the remembered name if it is the same
  repeated : (new : List ℕ) (place : ℕ) (name : List (List ℕ)) → new ≡ octets ++ wire name → place ≡ length octets
      → is_same (one_suffix folds) (slice_range new at.0 at.1) (drop place new) ≡ is_same (one_suffix folds) the_one.suffix (wire name)
  repeated new place name whole here =
      ap (λ l. is_same (one_suffix folds) l (drop place new)) (stands_at (Coded-set (coded_list coded_ℕ) _ _)
      (λ stands. slice_text at.1 stands.stops (subst (λ l. HasText l at.0 stands.text) (sym whole) (text-append (wire name) stands.there))
      ∙ sym (slice_text at.1 stands.stops stands.there)))
      ∙ ap (is_same (one_suffix folds) (slice_range octets at.0 at.1)) (ap (drop place) whole ∙ drop_at octets (wire name) place (sym here))
      ∙ ap (λ l. pointwise nat_eq l (folded (one_suffix folds) (wire name))) (sym (folded-folded (one_suffix folds) (slice_range octets at.0 at.1)))

  pub pointer_text : (new : List ℕ) (place : ℕ) (name : List (List ℕ)) → new ≡ octets ++ wire name → place ≡ length octets
      → is_same (one_suffix folds) (slice_range new at.0 at.1) (drop place new) ≡ true
      → name_text (one_suffix folds) (remembered folds octets between) (length octets) name ≡ pointer_to at.0
  pointer_text new place name whole here same =
      ap (λ b. name_text (one_suffix folds) (remembered folds octets b) (length octets) name) is
      ∙ one_found_text folds the_one (length octets) name (sym (repeated new place name whole here) ∙ same) at_long

  pub full_text : (new : List ℕ) (place : ℕ) (name : List (List ℕ)) → new ≡ octets ++ wire name → place ≡ length octets
      → is_same (one_suffix folds) (slice_range new at.0 at.1) (drop place new) ≡ false
      → name_text (one_suffix folds) (remembered folds octets between) (length octets) name ≡ wire name
  full_text new place name whole here other =
      ap (λ b. name_text (one_suffix folds) (remembered folds octets b) (length octets) name) is
      ∙ one_other_text folds the_one (length octets) name (sym (repeated new place name whole here) ∙ other)

  pub same_known : (new tail : List ℕ) (name : List (List ℕ)) → new ≡ octets ++ tail
      → remembered folds new between ≡ known_after (one_suffix folds) (remembered folds octets between) (length octets) name
  same_known new tail name whole =
      kept_append folds new tail between whole sound
      ∙ sym (ap (λ b. known_after (one_suffix folds) (remembered folds octets b) (length octets) name) is
      ∙ one_known folds the_one (length octets) name
      ∙ ap (remembered folds octets) (sym is))

-- cut back to what was there
pub cut_back : (old new cut tail : List ℕ) (place : ℕ) → new ≡ old ++ tail → place ≡ length old → cut ≡ take place new → cut ≡ old
cut_back old new cut tail place whole here is = is ∙ ap (take place) whole ∙ take_at old tail place (sym here)

pub first_known : (folds : Bool) (octets new : List ℕ) (name : List (List ℕ)) → IsName name → new ≡ octets ++ wire name
    → remembered folds new (standing_at (length octets) (length new)) ≡ known_after (one_suffix folds) [] (length octets) name
first_known folds octets new name named is = by_tests (nat_lt (length octets) 16384) (nat_lt 1 (length new - length octets)) refl refl
  where
    long : length new ≡ length octets + length (wire name)
    long = ap (length {A = ℕ}) is ∙ length-append octets (wire name)

    slice : slice_range new (length octets) (length new) ≡ wire name
    slice = slice_text (length new) (sym long) (record { front = octets; back = []; whole = is ∙ ap (λ l. octets ++ l) (sym (append-nil (wire name))); begins = refl })

    by_tests : (near some : Bool) → nat_lt (length octets) 16384 ≡ near → nat_lt 1 (length new - length octets) ≡ some
        → remembered folds new (if (near && some) then Some (length octets, length new) else None) ≡ known_after (one_suffix folds) [] (length octets) name
    by_tests false some far is_some = sym (one_none_far folds (length octets) name (ltb-false (length octets) 16384 far))
    by_tests true false near short =
        let e = ltb-false 1 (length new - length octets) short in
        sym (one_none_root folds (length octets) name (omega (arith, long)))
    by_tests true true near some =
        let e = ltb-true 1 (length new - length octets) some in
        ap (λ text. record { suffix = folded (one_suffix folds) text; place = length octets; stop = length new } ∷ []) slice
        ∙ ap (λ stop. record { suffix = folded (one_suffix folds) (wire name); place = length octets; stop = stop } ∷ []) long
        ∙ sym (one_none_known folds (length octets) name named (ltb-true (length octets) 16384 near) (omega (arith, long)))

-- a name that is appended adds at least one octet
pub appended_some : (octets new : List ℕ) (name : List (List ℕ)) → new ≡ octets ++ wire name → length octets < length new
appended_some octets new [] is = omega (arith, ap (length {A = ℕ}) is, length-append octets (0 ∷ []))
appended_some octets new (text ∷ name) is = omega (arith, ap (length {A = ℕ}) is, length-append octets (wire (text ∷ name)))
