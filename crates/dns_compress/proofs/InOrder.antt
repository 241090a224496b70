-- Suffixes in the order of writing.
use Rattle.std.proofs.Common.{◌⊎◌, inl, inr, ◌≡◌, ◌≤◌, ℕ, Bool, true, false, None, List, [], ◌∷◌, ◌++◌, refl, ◌∙◌, arith}
use Rattle.std.specs.Prelude.{if◌then◌else◌}
use Rattle.std.specs.List.{list_all}
use Rattle.std.proofs.lemmas.Bool.{and_parts, and_from, leb-true, false≢true}
use Rattle.dns_octets.specs.Builder.{Standing, Known, before}
use Rattle.dns_name.specs.Remembered.{IsKnown}
use Rattle.dns_name.specs.Remembered.IsKnown.{first, later}
use Rattle.dns_name.proofs.Known.{before_all, known-append_cases}
use Rattle.dns_name.specs.Spelling.{Spelling, is_same, place_in}
use Rattle.dns_compress.specs.Tables.{goes_before, in_order}

-- the suffix may be remembered after all of these
abbrev pub goes_last : Spelling → Known → Standing → Bool
goes_last s known other = list_all (λ one. goes_before s one other) known

-- the order

pub in_order-pop : (s : Spelling) (known : Known) (other : Standing) → in_order s (known ++ other ∷ []) ≡ true
    → (in_order s known ≡ true) × (goes_last s known other ≡ true)
in_order-pop s [] other order = (refl, refl)
in_order-pop s (one ∷ known) other order =
    let parts = and_parts (list_all (goes_before s one) (known ++ other ∷ [])) (in_order s (known ++ other ∷ [])) order in
    let on = in_order-pop s known other parts.1 in
    let firsts = all_pop known parts.0 in
    (and_from _ _ firsts.0 on.0, and_from _ _ firsts.1 on.1)
  where
    all_pop : (known : Known) → list_all (goes_before s one) (known ++ other ∷ []) ≡ true
        → (list_all (goes_before s one) known ≡ true) × (goes_before s one other ≡ true)
    all_pop [] all = (refl, (and_parts (goes_before s one other) true all).0)
    all_pop (next ∷ known) all =
        let parts = and_parts (goes_before s one next) _ all in
        let on = all_pop known parts.1 in
        (and_from _ _ parts.0 on.0, on.1)

-- looking up

skip_by : (s : Spelling) (one : Standing) (known : Known) (suffix : List ℕ) → is_same s one.suffix suffix ≡ false
    → place_in s (one ∷ known) suffix ≡ place_in s known suffix
skip_by s one known suffix is = rw is refl

pub before_parts : (same : Bool) (rest : Bool) → (if same then false else rest) ≡ true → (same ≡ false) × (rest ≡ true)
before_parts true rest is = absurd (false≢true is)
before_parts false rest is = (refl, is)

pub place_in-fresh : (s : Spelling) (known : Known) (other : Standing) → goes_last s known other ≡ true → place_in s known other.suffix ≡ None
place_in-fresh s [] other last = refl
place_in-fresh s (one ∷ known) other last =
    let parts = and_parts (goes_before s one other) (goes_last s known other) last in
    skip_by s one known other.suffix (before_parts _ _ parts.0).0
    ∙ place_in-fresh s known other parts.1

-- cuts

stops_first : (s : Spelling) (known : Known) (other : Standing) → goes_last s known other ≡ true → (one : Standing) → IsKnown one known
    → one.stop ≤ other.stop
stops_first s [] other last one is = elim is [ ]
stops_first s (front ∷ known) other last one first =
    leb-true front.stop other.stop (before_parts _ _ (and_parts (goes_before s front other) (goes_last s known other) last).0).1
stops_first s (front ∷ known) other last one (later is) =
    stops_first s known other (and_parts (goes_before s front other) (goes_last s known other) last).1 one is

pub before-whole : (s : Spelling) (len : ℕ) (known : Known) (other : Standing) → in_order s (known ++ other ∷ []) ≡ true → other.stop ≤ len
    → before len (known ++ other ∷ []) ≡ known ++ other ∷ []
before-whole s len known other order within =
    before_all len (known ++ other ∷ []) (λ one is. cases one (known-append_cases known (other ∷ []) is))
  where
    cases : (one : Standing) → IsKnown one known ⊎ IsKnown one (other ∷ []) → one.stop ≤ len
    cases one (inl is) = let e = stops_first s known other (in_order-pop s known other order).1 one is in omega arith
    cases _ (inr first) = within
    cases one (inr (later is)) = elim is [ ]

-- the first ones are in order too
pub in_order-front : (s : Spelling) (known more : Known) → in_order s (known ++ more) ≡ true → in_order s known ≡ true
in_order-front s [] more order = refl
in_order-front s (one ∷ known) more order =
    let parts = and_parts (list_all (goes_before s one) (known ++ more)) (in_order s (known ++ more)) order in
    and_from _ _ (front known parts.0) (in_order-front s known more parts.1)
  where
    front : (known : Known) → list_all (goes_before s one) (known ++ more) ≡ true → list_all (goes_before s one) known ≡ true
    front [] all = refl
    front (next ∷ known) all =
        let parts = and_parts (goes_before s one next) _ all in
        and_from _ _ parts.0 (front known parts.1)
