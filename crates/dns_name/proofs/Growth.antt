-- How a target grows, and how it is cut back to what it was.
use Rattle.std.proofs.Common.{subst, ◌≡◌, ◌≤◌, ◌<◌, ◌+◌, ℕ, Option, Some, None, List, ◌++◌, length, take, refl, ◌∙◌, ap, arith, length-append, append_assoc}
use Rattle.std.proofs.lemmas.List.{append-nil, take_at}
use Rattle.std.proofs.lemmas.List.Elements.{All-append, All-weaker}
use Rattle.dns_octets.specs.Builder.{Standing, Known, StandsBetween, GrowsTo, IsPast, before}
use Rattle.dns_octets.proofs.Grows.{GrowsTo-append, GrowsTo-same}
use Rattle.dns_label.specs.Name.{IsName}
use Rattle.dns_name.specs.Spelling.{Spelling, name_text, if_near, known_after}
use Rattle.dns_name.specs.Remembered.{IsKnown}
use Rattle.dns_name.proofs.Known.{before-append, before_all, before_none, each_known, all_known}
use Rattle.dns_name.proofs.Spelled.{StopsBefore, IsAdded, added_of, added_each, if_near-known}

-- a name makes the octets grow, and remembers only suffixes in what is new
pub GrowsTo-name : (s : Spelling) (octets : List ℕ) (known : Known) (name : List (List ℕ)) → IsName name → StopsBefore (length octets) known
    → GrowsTo octets known (octets ++ name_text s known (length octets) name) (known_after s known (length octets) name)
unfolding known_after name_text
GrowsTo-name s octets known name is_name within = record {
  tail = name_text s known (length octets) name;
  octets = refl;
  added = if_near added;
  known = refl;
  between = all_known _ (if_near added) (λ standing is.
      stands standing (added_each s known (length octets) name is_name within standing (if_near-known added standing is).0));
}
  where
    stop : ℕ
    stop = length octets + length (name_text s known (length octets) name)

    added : Known
    added = added_of s known (length octets) name

    stands : (standing : Standing) → IsAdded s known (length octets) (name_text s known (length octets) name) stop standing
        → StandsBetween (length octets) (length (octets ++ name_text s known (length octets) name)) standing
    stands standing is =
        record {
          begins = omega (arith, is.begins);
          spelled = omega (arith, is.begins, is.stops, is.some, ap (length {A = ℕ}) is.whole, length-append is.front is.behind);
          ends = omega (arith, is.stops, length-append octets (name_text s known (length octets) name));
        }

-- two growths are one
pub GrowsTo-trans : {first second third : List ℕ} {known more most : Known} → GrowsTo first known second more → GrowsTo second more third most
    → GrowsTo first known third most
GrowsTo-trans {first} {second} {third} one two = record {
  tail = one.tail ++ two.tail;
  octets = two.octets ∙ ap (λ l. l ++ two.tail) one.octets ∙ append_assoc first one.tail two.tail;
  added = one.added ++ two.added;
  known = two.known ∙ ap (λ (l : Known). l ++ two.added) one.known ∙ append_assoc _ one.added two.added;
  between = All-append (StandsBetween (length first) (length third)) one.added two.added
      (All-weaker (StandsBetween (length first) (length second)) (StandsBetween (length first) (length third)) up one.added one.between)
      (All-weaker (StandsBetween (length second) (length third)) (StandsBetween (length first) (length third)) down two.added two.between);
}
  where
    long : length first ≤ length second
    long = omega (arith, ap (length {A = ℕ}) one.octets, length-append first one.tail)

    longer : length second ≤ length third
    longer = omega (arith, ap (length {A = ℕ}) two.octets, length-append second two.tail)

    up : (standing : Standing) → StandsBetween (length first) (length second) standing → StandsBetween (length first) (length third) standing
    up standing is = record { begins = is.begins; spelled = is.spelled; ends = omega (arith, is.ends, longer) }

    down : (standing : Standing) → StandsBetween (length second) (length third) standing → StandsBetween (length first) (length third) standing
    down standing is = record { begins = omega (arith, is.begins, long); spelled = is.spelled; ends = is.ends }

-- cut back to the old length, what has grown is as it was
pub take_grown : {old new : List ℕ} {known more : Known} → GrowsTo old known new more → take (length old) new ≡ old
take_grown {old} grown = ap (take (length old)) grown.octets ∙ take_at old grown.tail (length old) refl

pub before_grown : {old new : List ℕ} {known more : Known} → StopsBefore (length old) known → GrowsTo old known new more
    → before (length old) more ≡ known
before_grown {old} {new} {known = known} within grown =
    ap (before (length old)) grown.known ∙ before-append (length old) known grown.added
    ∙ ap (λ (l : Known). l ++ before (length old) grown.added) (before_all (length old) known within)
    ∙ ap (λ (l : Known). known ++ l) (before_none (length old) grown.added behind)
    ∙ append-nil known
  where
    behind : (standing : Standing) → IsKnown standing grown.added → length old < standing.stop
    behind standing known =
        let is = each_known (StandsBetween (length old) (length new)) grown.added grown.between standing known in
        omega (arith, is.begins, is.spelled)

pub octets_back : {old new : List ℕ} {known more : Known} (len : ℕ) (back : List ℕ) → GrowsTo old known new more → len ≡ length old
    → back ≡ take len new → back ≡ old
octets_back {new = new} len back grown here is = is ∙ ap (λ n. take n new) here ∙ take_grown grown

pub known_back : {old new : List ℕ} {known more : Known} (len : ℕ) (back : Known) → StopsBefore (length old) known → GrowsTo old known new more
    → len ≡ length old → back ≡ before len more → back ≡ known
known_back {more = more} len back within grown here is = is ∙ ap (λ n. before n more) here ∙ before_grown within grown

-- a bound that less is past is one that more is past
pub IsPast-more : (bound : Option ℕ) (less more : ℕ) → less ≤ more → IsPast bound less → IsPast bound more
IsPast-more None less more long past = past
IsPast-more (Some bound) less more long past = omega arith

pub IsPast-from : (bound other : Option ℕ) (less more : ℕ) → other ≡ bound → less ≤ more → IsPast other less → IsPast bound more
IsPast-from bound other less more same long past = IsPast-more bound less more long (subst (λ b. IsPast b less) same past)

pub ruleset growth_rules = (GrowsTo-append, GrowsTo-same)
