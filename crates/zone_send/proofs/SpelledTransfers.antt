-- What is sent under a spelling is a transfer.
use Rattle.std.proofs.Common.{◌≡◌, ◌≢◌, ℕ, ◌<◌, ◌≤◌, ◌^◌, Bool, true, false, List, [], ◌∷◌, ◌++◌, map, refl, sym, ap, ◌∙◌, subst, arith}
use Rattle.std.specs.Prelude.{None}
use Rattle.std.specs.List.{AllByRecursion, AllZip}
use Rattle.dns_name.specs.Spelling.{Spelling}
use Rattle.dns_name.specs.Page.{Parts}
use Rattle.dns_rdata.specs.Fields.{Field, IsRow, IsData, kinds_of}
use Rattle.dns_rdata.specs.Fields.IsData.{typed, unknown}
use Rattle.dns_message.specs.Record.{IsWritten}
use Rattle.zone_records.specs.Record.{Record}
use Rattle.zone_records.specs.Records.{AreSendable, IsSendable, SameSoa}
use Rattle.zone_records.specs.Zone.{soa_type}
use Rattle.zone_records.proofs.Each.{all_append}
use Rattle.zone_core.specs.Cutting.{joined, IsNonempty}
use Rattle.zone_core.specs.Query.{AxfrQuery}
use Rattle.zone_send.specs.Sent.{IsQueryFor}
use Rattle.zone_send.specs.Spelled.{spelled_size}
use Rattle.zone_send.specs.SpelledSent.{IsSpelledSent, IsTakenAs, spelled_message}
use Rattle.zone_core.specs.Transfer.{IsInZoneOf, IsTransferred, ClosesTransfer, IsTransfer, IsFirst, IsExactTransfer}
use Rattle.zone_send.proofs.AlikeRecords.{IsTaken}
use Rattle.zone_send.proofs.LastRecord.{all_joined, ends_with}
use Rattle.zone_core.proofs.OneTransfer.{transfer_one}
use Rattle.zone_send.proofs.SentTransfers.{behind_soa}
use Rattle.zone_send.proofs.SpelledAnswers.{answers_spelled, framable_spelled}

-- what holds of the elements of paired groups holds of the elements of the joined groups
zip_append : {A B : Type 0} (R : A → B → Type 0) (xs : List A) (ys : List B) (more : List A) (others : List B) → AllZip R xs ys
    → AllZip R more others → AllZip R (xs ++ more) (ys ++ others)
zip_append R [] [] more others all on = on
zip_append R [] (y ∷ ys) more others all on = absurd all
zip_append R (x ∷ xs) [] more others all on = absurd all
zip_append R (x ∷ xs) (y ∷ ys) more others all on = (all.0, zip_append R xs ys more others all.1 on)

zip_joined : {A B : Type 0} (R : A → B → Type 0) (groups : List (List A)) (others : List (List B)) → AllZip (AllZip R) groups others
    → AllZip R (joined groups) (joined others)
zip_joined R [] [] all = tt
zip_joined R [] (other ∷ others) all = absurd all
zip_joined R (group ∷ groups) [] all = absurd all
zip_joined R (group ∷ groups) (other ∷ others) all =
    zip_append R group other (joined groups) (joined others) all.0 (zip_joined R groups others all.1)

-- groups of the same lengths are nonempty alike
zip_nonempty : {A B : Type 0} (R : A → B → Type 0) (groups : List (List A)) (others : List (List B)) → AllZip (AllZip R) groups others
    → AllByRecursion IsNonempty groups → AllByRecursion IsNonempty others
zip_nonempty R [] [] all some = tt
zip_nonempty R [] (other ∷ others) all some = absurd all
zip_nonempty R (group ∷ groups) [] all some = absurd all
zip_nonempty R ([] ∷ groups) (other ∷ others) all some = absurd some.0
zip_nonempty R ((x ∷ group) ∷ groups) ([] ∷ others) all some = absurd all.0
zip_nonempty R ((x ∷ group) ∷ groups) ((y ∷ other) ∷ others) all some = (tt, zip_nonempty R groups others all.1 some.1)

-- the last element of a list has a counterpart
record EndsAlike {A B : Type 0} (R : A → B → Type 0) (xs : List A) (x : A) (ys : List B) : Type 0 where
  others : List B
  last : B
  are : ys ≡ others ++ last ∷ []
  zipped : AllZip R xs others
  last_is : R x last

zip_last : {A B : Type 0} (R : A → B → Type 0) (xs : List A) (x : A) (ys : List B) → AllZip R (xs ++ x ∷ []) ys → EndsAlike R xs x ys
zip_last R [] x [] all = absurd all
zip_last R [] x (y ∷ []) all = record { others = []; last = y; are = refl; zipped = tt; last_is = all.0 }
zip_last R [] x (y ∷ (z ∷ ys)) all = absurd all.1
zip_last R (w ∷ xs) x [] all = absurd all
zip_last R (w ∷ xs) x (y ∷ ys) all =
    let on = zip_last R xs x ys all.1 in
    record {
      others = y ∷ on.others;
      last = on.last;
      are = ap (λ l. y ∷ l) on.are;
      zipped = (all.0, on.zipped);
      last_is = on.last_is;
    }

-- two records that a reader gets from one SOA are equal up to ASCII case
same_soas : (s : Spelling) (soa one other : Record) → soa.rtype ≡ soa_type → IsData soa.rtype soa.rdata → IsTaken s soa one
    → IsTaken s soa other → SameSoa one other
same_soas s soa one other is (typed row is_row octets_are) a b =
    let P : List Field → ℕ → Type 0 = λ row rtype. IsRow rtype row in
    let first = a.rows row is_row octets_are in
    let second = b.rows row is_row octets_are in
    record {
      owner = sym a.near.owner ∙ b.near.owner;
      class = sym a.near.class ∙ b.near.class;
      ttl = sym a.near.ttl ∙ b.near.ttl;
      row = first.others;
      other_row = second.others;
      is = (subst (P first.others) is first.is_row, first.octets_are);
      other_is = (subst (P second.others) is second.is_row, second.octets_are);
      same = sym first.lower ∙ second.lower;
    }
same_soas s soa one other is (unknown no_row short) a b =
    let P : ℕ → Type 0 = λ rtype. kinds_of rtype ≡ None in
    let none' : kinds_of soa_type ≡ None = subst P is no_row in absurd cc

-- a record that a reader gets from one in the zone is in the zone
taken_in_zone : (s : Spelling) (query : AxfrQuery) (r other : Record) → IsTaken s r other → IsInZoneOf query r → IsInZoneOf query other
taken_in_zone s query r other t is = record {
  class = sym t.near.class ∙ is.class;
  under = record { front = is.under.front; whole_is = sym t.near.owner ∙ is.under.whole_is };
  spellable = t.spellable is.spellable;
}

taken_behind : (s : Spelling) (query : AxfrQuery) (records others : List Record) → AllZip (IsTaken s) records others
    → AllByRecursion (IsInZoneOf query) records → AllByRecursion (λ r. r.rtype ≢ soa_type) records
    → AllByRecursion (IsInZoneOf query) others × AllByRecursion (λ r. r.rtype ≢ soa_type) others
taken_behind s query [] [] taken each behind = (tt, tt)
taken_behind s query [] (other ∷ others) taken each behind = absurd taken
taken_behind s query (r ∷ records) [] taken each behind = absurd taken
taken_behind s query (r ∷ records) (other ∷ others) taken each behind =
    let on = taken_behind s query records others taken.1 each.1 behind.1 in
    ((taken_in_zone s query r other taken.0 each.0, on.0), ((λ is. behind.0 (taken.0.near.rtype ∙ is)), on.1))

-- the records that a reader gets from a transfer's, and from the SOA again, are a transfer's
record TakenZone (query : AxfrQuery) (others : List Record) (last : Record) : Type 0 where
  transferred : IsTransferred query others
  closed : ClosesTransfer others last

zone_taken : (s : Spelling) (class : ℕ) (query : AxfrQuery) (soa : Record) (records others : List Record) (last : Record)
    → AreSendable class (soa ∷ records) → IsQueryFor (soa ∷ records) class query → AllZip (IsTaken s) (soa ∷ records) others
    → IsTaken s soa last → TakenZone query others last
zone_taken s class query soa records [] last are asks taken again = absurd taken
zone_taken s class query soa records (first ∷ others) last are asks taken again =
    let behind = behind_soa query class soa records asks.asks are.each.1 are.zone.1 in
    let soa_in_zone : IsInZoneOf query soa = record {
      class = are.each.0.class_is ∙ sym asks.asks.class_is;
      under = record { front = []; whole_is = sym asks.asks.name };
      spellable = are.each.0.spellable;
    } in
    let on = taken_behind s query records others taken.1 behind.0 behind.1 in
    record {
      transferred = (
        sym taken.0.near.rtype ∙ are.zone.0,
        sym taken.0.near.owner ∙ sym asks.asks.name,
        (taken_in_zone s query soa first taken.0 soa_in_zone, on.0),
        on.1,
      );
      closed = (sym again.near.rtype ∙ are.zone.0, same_soas s soa first last are.zone.0 are.each.0.data_is taken.0 again);
    }

-- what a reader gets if the spelling does not fold case
zip_exact : (s : Spelling) (records others : List Record) → s.folds ≡ false → AllZip (IsTaken s) records others → records ≡ others
zip_exact s [] [] exact taken = refl
zip_exact s [] (other ∷ others) exact taken = absurd taken
zip_exact s (r ∷ records) [] exact taken = absurd taken
zip_exact s (r ∷ records) (other ∷ others) exact taken =
    (λ i. taken.0.exact exact i ∷ zip_exact s records others exact taken.1 i)

first_again : (s : Spelling) (soa : Record) (records others : List Record) (last : Record) → s.folds ≡ false
    → AllZip (IsTaken s) (soa ∷ records) others → IsTaken s soa last → IsFirst others last
first_again s soa records [] last exact taken again = absurd taken
first_again s soa records (first ∷ others) last exact taken again = sym (again.exact exact) ∙ taken.0.exact exact

-- what a reader gets, by whether the spelling folds case
zip_as : (s : Spelling) (records others : List Record) → AllZip (IsTaken s) records others → AllZip (IsTakenAs s.folds) records others
zip_as s [] [] taken = tt
zip_as s [] (other ∷ others) taken = absurd taken
zip_as s (r ∷ records) [] taken = absurd taken
zip_as s (r ∷ records) (other ∷ others) taken = (by_case s.folds refl, zip_as s records others taken.1)
  where
    by_case : (folds : Bool) → s.folds ≡ folds → IsTakenAs folds r other
    by_case true is = taken.0.near
    by_case false is = taken.0.exact is

pub spelled_small : (s : Spelling) (item : Record → Parts) (query : AxfrQuery) (max : ℕ) (groups : List (List Record)) → max < 2 ^ 16
    → AllByRecursion (λ group. spelled_size s query item group ≤ max) groups
    → AllByRecursion (λ group. spelled_size s query item group < 2 ^ 16) groups
spelled_small s item query max [] fits small = tt
spelled_small s item query max (group ∷ groups) fits small = (omega (arith, small.0), spelled_small s item query max groups fits small.1)

-- the transfer that is sent, and the records that a reader gets from it
record SpelledTransfer (s : Spelling) (records : List Record) (query : AxfrQuery) (stream : List ℕ) : Type 0 where
  others : List Record
  taken : AllZip (IsTaken s) records others
  transfer : IsTransfer query stream others
  again : s.folds ≡ false → IsFirst others transfer.last

-- What is sent under a spelling is a transfer.
spelled_transfer : (s : Spelling) (records : List Record) (class : ℕ) (query : AxfrQuery) (max : ℕ) (stream : List ℕ) → max < 2 ^ 16
    → AreSendable class records → IsQueryFor records class query → IsSpelledSent s records query max stream
    → SpelledTransfer s records query stream
spelled_transfer s [] class query max stream fits are asks sent = absurd are.zone
spelled_transfer s (soa ∷ records) class query max stream fits are asks sent =
    let cut = sent.cut.fits in
    let IsGiven : Record → Type 0 = λ r. IsWritten r (sent.item r) in
    let each = all_append (IsSendable class) (soa ∷ records) (soa ∷ []) are.each (are.each.0, tt) in
    let given = all_append IsGiven (soa ∷ records) (soa ∷ []) sent.each (sent.each.0, tt) in
    let grouped = all_joined (IsSendable class) sent.groups (subst (AllByRecursion (IsSendable class)) (sym cut.cut.joins) each) in
    let all_given = all_joined IsGiven sent.groups (subst (AllByRecursion IsGiven) (sym cut.cut.joins) given) in
    let small = spelled_small s sent.item query max sent.groups fits cut.small in
    let a = answers_spelled s sent.item query true class (soa ∷ records) sent.groups asks grouped all_given small in
    let zipped : AllZip (IsTaken s) ((soa ∷ records) ++ soa ∷ []) (joined a.others) =
    subst (λ l. AllZip (IsTaken s) l (joined a.others)) cut.cut.joins (zip_joined (IsTaken s) sent.groups a.others a.taken) in
    let end = zip_last (IsTaken s) (soa ∷ records) soa (joined a.others) zipped in
    let some = zip_nonempty (IsTaken s) sent.groups a.others a.taken cut.cut.nonempty in
    let ends = ends_with a.others end.others end.last some end.are in
    let zone = zone_taken s class query soa records end.others end.last are asks end.zipped end.last_is in
    record {
      others = end.others;
      taken = end.zipped;
      transfer = record {
        messages = map (spelled_message s query sent.item) sent.groups;
        each = framable_spelled s sent.item query sent.groups small;
        whole = sent.framed;
        groups = a.others;
        answers = a.answers;
        last = end.last;
        front = ends.front;
        last_group = ends.last_group;
        splits = ends.splits;
        joins = ends.joins;
        transferred = zone.transferred;
        closed = zone.closed;
      };
      again = λ exact. first_again s soa records end.others end.last exact end.zipped end.last_is;
    }

-- of records that differ at most in ASCII case
pub spelled_taken : (s : Spelling) (records : List Record) (class : ℕ) (query : AxfrQuery) (max : ℕ) (stream : List ℕ) → max < 2 ^ 16
    → AreSendable class records → IsQueryFor records class query → IsSpelledSent s records query max stream
    → (others : List Record) × IsTransfer query stream others × AllZip (IsTakenAs s.folds) records others
spelled_taken s records class query max stream fits are asks sent =
    let t = spelled_transfer s records class query max stream fits are asks sent in
    (t.others, t.transfer, zip_as s records t.others t.taken)

-- and of the same records if the spelling does not fold case
pub spelled_exact : (s : Spelling) (records : List Record) (class : ℕ) (query : AxfrQuery) (max : ℕ) (stream : List ℕ) → s.folds ≡ false
    → max < 2 ^ 16 → AreSendable class records → IsQueryFor records class query → IsSpelledSent s records query max stream
    → IsExactTransfer query stream records
spelled_exact s records class query max stream exact fits are asks sent =
    let t = spelled_transfer s records class query max stream fits are asks sent in
    subst (IsExactTransfer query stream) (sym (zip_exact s records t.others exact t.taken))
    (record { transfer = t.transfer; again = t.again exact })

-- What is received from it is sent again as the same stream.
pub spelled_again : (s : Spelling) (records others : List Record) (class : ℕ) (query : AxfrQuery) (max : ℕ) (stream : List ℕ)
    → s.folds ≡ false → max < 2 ^ 16 → AreSendable class records → IsQueryFor records class query
    → IsSpelledSent s records query max stream → IsTransfer query stream others → (records ≡ others) × IsSpelledSent s others query max stream
spelled_again s records others class query max stream exact fits are asks sent received =
    let own = spelled_exact s records class query max stream exact fits are asks sent in
    let same = transfer_one query stream records others own.transfer received in
    (same, subst (λ l. IsSpelledSent s l query max stream) same sent)
