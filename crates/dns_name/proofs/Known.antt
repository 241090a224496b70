-- Which suffixes are remembered.
use Rattle.std.proofs.Common.{◌≡◌, ◌≤◌, ◌<◌, ℕ, ◌⊎◌, Bool, true, false, Some, None, List, [], ◌∷◌, ◌++◌, length, refl, ap, arith, inl, inr}
use Rattle.std.specs.Prelude.{nat_le, All, if◌then◌else◌}
use Rattle.std.proofs.lemmas.Bool.{leb-true, le-leb, lt-leb, and_parts, and_from}
use Rattle.std.proofs.lemmas.List.Elements.{All-head, All-tail, All-cons, All-nil}
use Rattle.dns_octets.specs.Builder.{Standing, Known, before}
use Rattle.dns_name.specs.Spelling.{Spelling, is_same, place_in}
use Rattle.dns_name.specs.Remembered.{IsKnown, is_free}
use Rattle.dns_name.specs.Remembered.IsKnown.{first, later}

pub none_known : {standing : Standing} → IsKnown standing [] → ⊥
none_known is = elim is [ ]

pub known-append_left : {standing : Standing} {known : Known} (more : Known) → IsKnown standing known → IsKnown standing (known ++ more)
known-append_left more first = first
known-append_left more (later is) = later (known-append_left more is)

pub known-append_cases : {standing : Standing} (known more : Known) → IsKnown standing (known ++ more)
    → IsKnown standing known ⊎ IsKnown standing more
known-append_cases [] more is = inr is
known-append_cases (other ∷ known) more first = inl first
known-append_cases (other ∷ known) more (later is) = later_case (known-append_cases known more is)
  where
    later_case : {standing : Standing} {other : Standing} {known more : Known} → IsKnown standing known ⊎ IsKnown standing more
        → IsKnown standing (other ∷ known) ⊎ IsKnown standing more
    later_case (inl is) = inl (later is)
    later_case (inr is) = inr is

-- what holds for all holds for each
pub each_known : (P : Standing → Type 0) (known : Known) → All P known → (standing : Standing) → IsKnown standing known → P standing
each_known P [] all standing is = elim is [ ]
each_known P (other ∷ known) all standing first = All-head P other known all
each_known P (other ∷ known) all standing (later is) = each_known P known (All-tail P other known all) standing is

pub all_known : (P : Standing → Type 0) (known : Known) → ((standing : Standing) → IsKnown standing known → P standing) → All P known
all_known P [] each = All-nil P
all_known P (other ∷ known) each = All-cons P other known (each other first) (all_known P known (λ standing is. each standing (later is)))

-- the suffix that is found is one of those that are remembered
pub record Found (s : Spelling) (known : Known) (suffix : List ℕ) (place : ℕ) : Type 0 where
  pub target : Standing
  pub is_known : IsKnown target known
  pub there : target.place ≡ place
  pub same : is_same s target.suffix suffix ≡ true

found_by : (s : Spelling) (known : Known) (suffix : List ℕ) (place : ℕ) (other : Standing) (test : Bool)
    → is_same s other.suffix suffix ≡ test → (place_in s known suffix ≡ Some place → Found s known suffix place)
    → place_in s (other ∷ known) suffix ≡ Some place → Found s (other ∷ known) suffix place
found_by s known suffix place other true is behind found =
    let e : Some other.place ≡ Some place = rw is at found in
    record { target = other; is_known = first; there = cc; same = is }
found_by s known suffix place other false is behind found =
    let e : place_in s known suffix ≡ Some place = rw is at found in
    let on = behind e in
    record { target = on.target; is_known = later on.is_known; there = on.there; same = on.same }

pub found_in : (s : Spelling) (known : Known) (suffix : List ℕ) (place : ℕ) → place_in s known suffix ≡ Some place
    → Found s known suffix place
found_in s [] suffix place found = absurd (let e : None ≡ Some place = found in cc)
found_in s (other ∷ known) suffix place found =
    found_by s known suffix place other (is_same s other.suffix suffix) refl (found_in s known suffix place) found

-- what is still remembered in octets that are cut to a length
before_by : (len : ℕ) (other : Standing) (known : Known) (test : Bool) → nat_le other.stop len ≡ test
    → (standing : Standing) → (IsKnown standing (before len known) → IsKnown standing known × (standing.stop ≤ len))
    → IsKnown standing (before len (other ∷ known)) → IsKnown standing (other ∷ known) × (standing.stop ≤ len)
before_by len other known false is standing behind there =
    let kept : IsKnown standing (before len known) = rw is at there in
    let on = behind kept in (later on.0, on.1)
before_by len other known true is standing behind there =
    let kept : IsKnown standing (other ∷ before len known) = rw is at there in
    cut_case len other known standing (leb-true other.stop len is) behind kept
  where
    cut_case : (len : ℕ) (other : Standing) (known : Known) (standing : Standing) → other.stop ≤ len
        → (IsKnown standing (before len known) → IsKnown standing known × (standing.stop ≤ len))
        → IsKnown standing (other ∷ before len known) → IsKnown standing (other ∷ known) × (standing.stop ≤ len)
    cut_case len other known _ within behind first = (first, within)
    cut_case len other known standing within behind (later is) = let on = behind is in (later on.0, on.1)

pub known_before : (len : ℕ) (known : Known) (standing : Standing) → IsKnown standing (before len known)
    → IsKnown standing known × (standing.stop ≤ len)
known_before len [] standing is = elim is [ ]
known_before len (other ∷ known) standing is =
    before_by len other known (nat_le other.stop len) refl standing (known_before len known standing) is

pub before_known : (len : ℕ) (known : Known) (standing : Standing) → IsKnown standing known → standing.stop ≤ len
    → IsKnown standing (before len known)
before_known len [] standing is within = elim is [ ]
before_known len (other ∷ known) standing first within = rw (le-leb standing.stop len within) first
before_known len (other ∷ known) standing (later is) within =
    kept_by len other known standing (nat_le other.stop len) refl (before_known len known standing is within)
  where
    kept_by : (len : ℕ) (other : Standing) (known : Known) (standing : Standing) (test : Bool) → nat_le other.stop len ≡ test
        → IsKnown standing (before len known) → IsKnown standing (before len (other ∷ known))
    kept_by len other known standing true is there = rw is (later there)
    kept_by len other known standing false is there = rw is there

pub length-before : (len : ℕ) (known : Known) → length (before len known) ≤ length known
length-before len [] = omega arith
length-before len (other ∷ known) = long_by len other known (nat_le other.stop len) refl (length-before len known)
  where
    long_by : (len : ℕ) (other : Standing) (known : Known) (test : Bool) → nat_le other.stop len ≡ test
        → length (before len known) ≤ length known → length (before len (other ∷ known)) ≤ length (other ∷ known)
    long_by len other known true is less = rw is (omega arith)
    long_by len other known false is less = rw is (omega arith)

pub before-append : (len : ℕ) (known more : Known) → before len (known ++ more) ≡ before len known ++ before len more
before-append len [] more = refl
before-append len (other ∷ known) more = join_by len other known more (nat_le other.stop len) refl (before-append len known more)
  where
    join_by : (len : ℕ) (other : Standing) (known more : Known) (test : Bool) → nat_le other.stop len ≡ test
        → before len (known ++ more) ≡ before len known ++ before len more
        → before len (other ∷ known ++ more) ≡ before len (other ∷ known) ++ before len more
    join_by len other known more true is same = rw is (ap (λ (l : Known). other ∷ l) same)
    join_by len other known more false is same = rw is same

-- those that stop within the length stay
pub before_all : (len : ℕ) (known : Known) → ((standing : Standing) → IsKnown standing known → standing.stop ≤ len)
    → before len known ≡ known
before_all len [] within = refl
before_all len (other ∷ known) within =
    rw (le-leb other.stop len (within other first)) (ap (λ (l : Known). other ∷ l) (before_all len known (λ standing is. within standing (later is))))

-- and those that stop after it go
pub before_none : (len : ℕ) (known : Known) → ((standing : Standing) → IsKnown standing known → len < standing.stop)
    → before len known ≡ []
before_none len [] behind = refl
before_none len (other ∷ known) behind =
    rw (lt-leb other.stop len (behind other first)) (before_none len known (λ standing is. behind standing (later is)))

-- each is before the range or after it
pub free_cases : (begin end : ℕ) (known : Known) → is_free begin end known ≡ true → (standing : Standing) → IsKnown standing known
    → (standing.stop ≤ begin) ⊎ (end ≤ standing.place)
free_cases begin end [] free standing is = elim is [ ]
free_cases begin end (other ∷ known) free standing first =
    free_case begin end standing (nat_le standing.stop begin) refl (and_parts _ _ free).0
  where
    free_case : (begin end : ℕ) (standing : Standing) (test : Bool) → nat_le standing.stop begin ≡ test
        → (if test then true else nat_le end standing.place) ≡ true → (standing.stop ≤ begin) ⊎ (end ≤ standing.place)
    free_case begin end standing true is free = inl (leb-true standing.stop begin is)
    free_case begin end standing false is free = inr (leb-true end standing.place free)
free_cases begin end (other ∷ known) free standing (later is) =
    free_cases begin end known (and_parts (if nat_le other.stop begin then true else nat_le end other.place) _ free).1 standing is

pub free_from : (begin end : ℕ) (known : Known)
    → ((standing : Standing) → IsKnown standing known → (standing.stop ≤ begin) ⊎ (end ≤ standing.place)) → is_free begin end known ≡ true
free_from begin end [] each = refl
free_from begin end (other ∷ known) each =
    and_from (if nat_le other.stop begin then true else nat_le end other.place) (is_free begin end known) (one begin end other (each other first))
    (free_from begin end known (λ standing is. each standing (later is)))
  where
    one : (begin end : ℕ) (standing : Standing) → (standing.stop ≤ begin) ⊎ (end ≤ standing.place)
        → (if nat_le standing.stop begin then true else nat_le end standing.place) ≡ true
    one begin end standing (inl front) = rw (le-leb standing.stop begin front) refl
    one begin end standing (inr behind) = by_test (nat_le standing.stop begin) (le-leb end standing.place behind)
      where
        by_test : (test : Bool) {other : Bool} → other ≡ true → (if test then true else other) ≡ true
        by_test true is = refl
        by_test false is = is
