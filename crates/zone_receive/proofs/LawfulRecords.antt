-- Records of a transfer so far: each keeps the rules after those before it, and nothing follows the last SOA.
use Rattle.std.proofs.Common.{◌≡◌, ◌≢◌, ◌⊎◌, List, [], ◌∷◌, ◌++◌, sym, ◌∙◌, subst, arith, append-nil, inl, inr}
use Rattle.std.specs.List.{AllByRecursion, push}
use Rattle.dns_rdata.specs.DataOctets.{IsSpellable}
use Rattle.dns_message.proofs.Spellable.{spellable_unless_caa}
use Rattle.zone_records.specs.Record.{Record}
use Rattle.zone_records.specs.Zone.{IsUnder, soa_type}
use Rattle.zone_core.specs.Query.{AxfrQuery}
use Rattle.zone_core.specs.Transfer.{IsInZoneOf, IsTransferred, ClosesTransfer}
use Rattle.zone_receive.specs.Receiving.{IsOpen, IsClosed, KeepsFirstRule, KeepsLastRule}
use Rattle.zone_core.proofs.Splits.{two_splits, nil_append_cons}
use Rattle.zone_core.proofs.Splits.Compared.{same, longer, shorter}

-- what holds of each element of a list holds of one of them
pub one_within : {X : Type 0} (P : X → Type 0) (front : List X) (x : X) (more : List X) → AllByRecursion P (front ++ x ∷ more) → P x
one_within P [] x more each = each.0
one_within P (y ∷ front) x more each = one_within P front x more each.1

one_pushed : {X : Type 0} (P : X → Type 0) (front : List X) (x : X) (more : List X)
    → AllByRecursion P ((front ++ x ∷ []) ++ more) → P x
one_pushed P [] x more each = each.0
one_pushed P (y ∷ front) x more each = one_pushed P front x more each.1

-- nothing follows the last SOA
no_more : (query : AxfrQuery) (front before : List Record) (last : Record) (more : List Record) → front ≡ push before last
    → IsTransferred query before → ClosesTransfer before last → IsTransferred query (front ++ more) → ⊥
no_more query front [] last more is transferred closes whole = transferred
no_more query front (soa ∷ others) last more is transferred closes whole =
    let P : List Record → Type 0 = λ records. IsTransferred query (records ++ more) in
    let whole' = subst P is whole in
    one_pushed (λ r. r.rtype ≢ soa_type) others last more whole'.3 closes.0

pub closed_no_front : (query : AxfrQuery) (front more : List Record) → IsClosed query front → IsTransferred query (front ++ more) → ⊥
closed_no_front query front more closed whole =
    no_more query front closed.front closed.last more closed.splits closed.transferred closed.closes whole

pub closed_not_open : (query : AxfrQuery) (front more : List Record) → IsClosed query front → IsOpen query (front ++ more) → ⊥
closed_not_open query [] more closed open_ = nil_append_cons closed.front [] closed.last closed.splits
closed_not_open query (r ∷ front) more closed open_ = closed_no_front query (r ∷ front) more closed open_

-- records of a transfer, with its last SOA or without it
abbrev pub IsLawful : AxfrQuery → List Record → Type 0
IsLawful query records = IsOpen query records ⊎ IsClosed query records

-- the record keeps the rules after those before it
pub record KeepsRecordRules (query : AxfrQuery) (front : List Record) (r : Record) : Type 0 where
  pub first : KeepsFirstRule query front r
  pub class : r.class ≡ query.class
  pub under : IsUnder query.name r.owner
  pub last : KeepsLastRule front r
  pub not_closed : IsClosed query front → ⊥
  pub spellable : IsSpellable r.rtype r.rdata

transferred_record : (query : AxfrQuery) (front : List Record) (r : Record) (more : List Record) → IsTransferred query (front ++ r ∷ more)
    → KeepsRecordRules query front r
transferred_record query [] r more whole = record {
  first = (whole.0, whole.1);
  class = whole.2.0.class;
  under = whole.2.0.under;
  last = tt;
  not_closed = λ closed. closed_no_front query [] (r ∷ more) closed whole;
  spellable = whole.2.0.spellable;
}
transferred_record query (soa ∷ others) r more whole =
    let within = one_within (IsInZoneOf query) others r more whole.2.1 in
    record {
      first = tt;
      class = within.class;
      under = within.under;
      last = λ is. absurd (one_within (λ s. s.rtype ≢ soa_type) others r more whole.3 is);
      not_closed = λ closed. closed_no_front query (soa ∷ others) (r ∷ more) closed whole;
      spellable = within.spellable;
    }

closing_record : (query : AxfrQuery) (front : List Record) (last : Record) → IsTransferred query front → ClosesTransfer front last
    → KeepsRecordRules query front last
closing_record query [] last transferred closes = absurd transferred
closing_record query (soa ∷ others) last transferred closes =
    let P : List Record → Type 0 = λ records. IsTransferred query records in
    record {
      first = tt;
      class = sym closes.1.class ∙ transferred.2.0.class;
      under = record { front = []; whole_is = sym closes.1.owner ∙ transferred.1 };
      last = λ is. closes.1;
      not_closed = λ closed. closed_no_front query (soa ∷ others) [] closed (subst P (sym (append-nil (soa ∷ others))) transferred);
      spellable = spellable_unless_caa last.rtype last.rdata (λ caa. absurd (omega (arith, closes.0, caa)));
    }

-- each record of a lawful list keeps the rules
pub lawful_record : (query : AxfrQuery) (front : List Record) (r : Record) (more : List Record) → IsLawful query (front ++ r ∷ more)
    → KeepsRecordRules query front r
lawful_record query [] r more (inl open_) = transferred_record query [] r more open_
lawful_record query (s ∷ front) r more (inl open_) = transferred_record query (s ∷ front) r more open_
lawful_record query front r more (inr closed) =
    elim (two_splits front (r ∷ more) closed.front (closed.last ∷ []) closed.splits) [
      | same s ↦ (
          let is : closed.last ≡ r = cc (s.back) in
          let P : Record → Type 0 = λ r. KeepsRecordRules query front r in
          let Q : List Record → Type 0 = λ front. KeepsRecordRules query front closed.last in
          subst P is (subst Q (sym s.front) (closing_record query closed.front closed.last closed.transferred closed.closes)))
      | shorter s ↦ (
          let is : s.y ≡ r = cc (s.back) in
          let P : Record → Type 0 = λ r. KeepsRecordRules query front r in
          let Q : List Record → Type 0 = λ records. IsTransferred query records in
          subst P is (transferred_record query front s.y s.w (subst Q s.front closed.transferred)))
      | longer s ↦ (
          let none : [] ≡ s.w ++ r ∷ more = cc (s.back) in
          absurd (nil_append_cons s.w more r none))
    ]
