-- No two remembered suffixes are the same: after a name, and after a cut.
use Rattle.std.proofs.Common.{◌≡◌, ◌≤◌, ◌<◌, ◌+◌, ℕ, Bool, true, false, Some, None, List, [], ◌∷◌, ◌++◌, length, refl, sym, ◌∙◌, ap, arith, length-append}
use Rattle.std.specs.Prelude.{if◌then◌else◌, nat_le}
use Rattle.std.specs.List.{list_all}
use Rattle.dns_octets.specs.Builder.{Standing, Known, before}
use Rattle.dns_label.specs.Name.{wire}
use Rattle.dns_name.specs.Spelling.{Spelling, folded, is_same, remembered_form, place_in, standings, is_near, if_near}
use Rattle.dns_name.specs.Remembered.{IsKnown, AreDistinct}
use Rattle.dns_name.specs.Remembered.IsKnown.{first, later}
use Rattle.dns_name.proofs.Known.{known_before}
use Rattle.dns_name.proofs.Folding.{same_is, same_from, length-folded, folded-form}
use Rattle.dns_name.proofs.Spelled.{AreAbsent}

-- the suffix is not remembered, as no remembered one is the same
other_by : (s : Spelling) (known : Known) (suffix : List ℕ) (standing : Standing) (test : Bool) → is_same s standing.suffix suffix ≡ test
    → place_in s (standing ∷ known) suffix ≡ None → (is_same s standing.suffix suffix ≡ false) × (place_in s known suffix ≡ None)
other_by s known suffix standing true is none = absurd (let e : Some standing.place ≡ None = rw is at none in cc)
other_by s known suffix standing false is none =
    let rest : place_in s known suffix ≡ None = rw is at none in
    (is, rest)

pub others : (s : Spelling) (known : Known) (suffix : List ℕ) → place_in s known suffix ≡ None
    → (standing : Standing) → IsKnown standing known → is_same s standing.suffix suffix ≡ false
others s [] suffix none standing is = elim is [ ]
others s (other ∷ known) suffix none standing first = (other_by s known suffix standing (is_same s standing.suffix suffix) refl none).0
others s (other ∷ known) suffix none standing (later is) =
    others s known suffix (other_by s known suffix other (is_same s other.suffix suffix) refl none).1 standing is

pub place_in-none : (s : Spelling) (known : Known) (suffix : List ℕ)
    → ((standing : Standing) → IsKnown standing known → is_same s standing.suffix suffix ≡ false) → place_in s known suffix ≡ None
place_in-none s [] suffix each = refl
place_in-none s (other ∷ known) suffix each =
    rw (each other first) (place_in-none s known suffix (λ standing is. each standing (later is)))

false_from : (test : Bool) → (test ≡ true → ⊥) → test ≡ false
false_from true not = absurd (not refl)
false_from false not = refl

true_false : (test : Bool) → test ≡ true → test ≡ false → ⊥
true_false test is is_not = let e : true ≡ false = sym is ∙ is_not in absurd (let f : true ≡ false = e in cc)

-- suffixes of two lengths are not the same
pub other_lengths : (s : Spelling) (one other : List ℕ) → length one < length other → is_same s one other ≡ false
other_lengths s one other short =
    false_from (is_same s one other) (λ same.
    omega (arith, ap (length {A = ℕ}) (same_is s one other same), length-folded s one, length-folded s other))

-- which of the two comes first makes no difference, nor does what the suffix is remembered by
other_form : (s : Spelling) (one : List ℕ) (name : List (List ℕ)) → is_same s one (wire name) ≡ false → is_same s (remembered_form s name) one ≡ false
other_form s one name other =
    false_from (is_same s (remembered_form s name) one) (λ same.
    true_false (is_same s one (wire name))
    (same_from s one (wire name) (sym (same_is s (remembered_form s name) one same) ∙ folded-form s name)) other)

-- after a cut
pub AreDistinct-before : (s : Spelling) (len : ℕ) (known : Known) → AreDistinct s known → AreDistinct s (before len known)
AreDistinct-before s len [] distinct = tt
AreDistinct-before s len (standing ∷ known) distinct =
    by_test s len standing known (nat_le standing.stop len) refl distinct (AreDistinct-before s len known distinct.1)
  where
    by_test : (s : Spelling) (len : ℕ) (standing : Standing) (known : Known) (test : Bool) → nat_le standing.stop len ≡ test
        → AreDistinct s (standing ∷ known) → AreDistinct s (before len known) → AreDistinct s (before len (standing ∷ known))
    by_test s len standing known true is distinct on =
        let none : place_in s (before len known) standing.suffix ≡ None =
        place_in-none s (before len known) standing.suffix
        (λ other there. others s known standing.suffix distinct.0 other (known_before len known other there).0) in
        rw is (none, on)
    by_test s len standing known false is distinct on = rw is on

-- with more suffixes, all of them new
pub AreDistinct-append : (s : Spelling) (known more : Known) → AreDistinct s known → AreDistinct s more
    → ((standing : Standing) → IsKnown standing known → place_in s more standing.suffix ≡ None) → AreDistinct s (known ++ more)
AreDistinct-append s [] more distinct on new = on
AreDistinct-append s (standing ∷ known) more distinct on new = (
  none_in s known more standing.suffix distinct.0 (new standing first),
  AreDistinct-append s known more distinct.1 on (λ other there. new other (later there)),
)
  where
    none_in : (s : Spelling) (known more : Known) (suffix : List ℕ) → place_in s known suffix ≡ None → place_in s more suffix ≡ None
        → place_in s (known ++ more) suffix ≡ None
    none_in s [] more suffix none on = on
    none_in s (other ∷ known) more suffix none on =
        let both = other_by s known suffix other (is_same s other.suffix suffix) refl none in
        rw both.0 (none_in s known more suffix both.1 on)

-- a suffix begins with one of these labels, and is no longer than the name
standing_of : (s : Spelling) (place stop : ℕ) (labels suffix : List (List ℕ)) (standing : Standing) → IsKnown standing (standings s place stop labels suffix)
    → length standing.suffix ≤ length (remembered_form s (labels ++ suffix))
standing_of s place stop [] suffix standing is = elim is [ ]
standing_of s place stop (label ∷ labels) suffix _ first = omega arith
standing_of s place stop (label ∷ labels) suffix standing (later is) =
    omega (arith, standing_of s (place + 1 + length label) stop labels suffix standing is, length-append (folded s label) (remembered_form s (labels ++ suffix)))

AreDistinct-standings : (s : Spelling) (place stop : ℕ) (labels suffix : List (List ℕ)) → AreDistinct s (standings s place stop labels suffix)
AreDistinct-standings s place stop [] suffix = tt
AreDistinct-standings s place stop (label ∷ labels) suffix =
    let next = place + 1 + length label in (
      place_in-none s (standings s next stop labels suffix) (remembered_form s (label ∷ labels ++ suffix))
          (λ standing there. other_lengths s standing.suffix (remembered_form s (label ∷ labels ++ suffix))
          (omega (arith, standing_of s next stop labels suffix standing there, length-append (folded s label) (remembered_form s (labels ++ suffix))))),
      AreDistinct-standings s next stop labels suffix,
    )

-- a suffix that is new is the same as none that was there
apart : (s : Spelling) (known : Known) (place stop : ℕ) (labels suffix : List (List ℕ)) → AreAbsent s known labels suffix
    → (one : Standing) → IsKnown one known → (standing : Standing) → IsKnown standing (standings s place stop labels suffix)
    → is_same s standing.suffix one.suffix ≡ false
apart s known place stop [] suffix absent one there standing is = elim is [ ]
apart s known place stop (label ∷ labels) suffix absent one there _ first =
    other_form s one.suffix (label ∷ labels ++ suffix) (others s known (wire (label ∷ labels ++ suffix)) absent.0 one there)
apart s known place stop (label ∷ labels) suffix absent one there standing (later is) =
    apart s known (place + 1 + length label) stop labels suffix absent.1 one there standing is

near_by : (s : Spelling) (known added : Known) (near : Bool) → AreDistinct s known → AreDistinct s added
    → ((standing : Standing) → IsKnown standing known → place_in s added standing.suffix ≡ None)
    → AreDistinct s (known ++ (if near then added else []))
near_by s known added true distinct on new = AreDistinct-append s known added distinct on new
near_by s known added false distinct on new = AreDistinct-append s known [] distinct tt (λ standing there. refl)

-- after a name
pub AreDistinct-name : (s : Spelling) (known : Known) (place stop : ℕ) (labels suffix : List (List ℕ)) → AreAbsent s known labels suffix
    → AreDistinct s known → AreDistinct s (known ++ if_near (standings s place stop labels suffix))
AreDistinct-name s known place stop labels suffix absent distinct =
    near_by s known (standings s place stop labels suffix) (list_all (λ standing. is_near standing.place) (standings s place stop labels suffix))
    distinct (AreDistinct-standings s place stop labels suffix)
    (λ one there. place_in-none s (standings s place stop labels suffix) one.suffix (apart s known place stop labels suffix absent one there))
