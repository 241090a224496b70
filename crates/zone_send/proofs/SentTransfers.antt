-- What is sent is a transfer.
use Rattle.std.proofs.Common.{◌≡◌, ◌≢◌, ℕ, ◌<◌, ◌≤◌, ◌^◌, List, [], ◌∷◌, ◌++◌, map, refl, sym, ap, ◌∙◌, subst, arith, None, true}
use Rattle.std.specs.List.{AllByRecursion}
use Rattle.dns_label.specs.Name.{low}
use Rattle.dns_rdata.specs.Fields.{IsData, IsRow, kinds_of}
use Rattle.dns_rdata.specs.Fields.IsData.{typed, unknown}
use Rattle.zone_records.specs.Record.{Record}
use Rattle.zone_records.specs.Zone.{IsUnder, IsBehindSoa, soa_type}
use Rattle.zone_core.specs.Query.{AxfrQuery}
use Rattle.zone_records.specs.Records.{AreRecordsOf, AreSendable, IsRecordOf, IsSendable, SameSoa}
use Rattle.zone_send.specs.Sent.{IsQueryFor, AsksFor, IsSent, message, size}
use Rattle.zone_core.specs.Transfer.{IsInZoneOf, IsTransfer, IsExactTransfer}
use Rattle.zone_records.proofs.Each.{all_append}
use Rattle.zone_send.proofs.LastRecord.{all_joined, ends_with}
use Rattle.zone_send.proofs.WrittenAnswers.{answers-written, framable-written}
use Rattle.zone_core.proofs.OneTransfer.{transfer_one}

-- an SOA is equal to itself
same_soa : (soa : Record) → soa.rtype ≡ soa_type → IsData soa.rtype soa.rdata → SameSoa soa soa
same_soa soa is (typed row is_row octets_are) =
    let P : ℕ → Type 0 = λ rtype. IsRow rtype row in
    record {
      owner = refl;
      class = refl;
      ttl = refl;
      row = row;
      other_row = row;
      is = (subst P is is_row, octets_are);
      other_is = (subst P is is_row, octets_are);
      same = refl;
    }
same_soa soa is (unknown none short) =
    let P : ℕ → Type 0 = λ rtype. kinds_of rtype ≡ None in
    let none' : kinds_of soa_type ≡ None = subst P is none in absurd cc

-- a name under the zone's apex is under the query's name
under_query : (query : AxfrQuery) (apex name : List (List ℕ)) → low query.name ≡ low apex → IsUnder apex name → IsUnder query.name name
under_query query apex name same under =
    record { front = under.front; whole_is = under.whole_is ∙ ap (λ l. under.front ++ l) (sym same) }

pub behind_soa : (query : AxfrQuery) (class : ℕ) (soa : Record) (others : List Record) → AsksFor query soa.owner class
    → AllByRecursion (IsSendable class) others → AllByRecursion (IsBehindSoa soa) others
    → AllByRecursion (IsInZoneOf query) others × AllByRecursion (λ r. r.rtype ≢ soa_type) others
behind_soa query class soa [] asks each behind = (tt, tt)
behind_soa query class soa (r ∷ others) asks each behind =
    let rest = behind_soa query class soa others asks each.1 behind.1 in
    let first : IsInZoneOf query r = record {
      class = each.0.class_is ∙ sym asks.class_is;
      under = under_query query soa.owner r.owner asks.name behind.0.under;
      spellable = each.0.spellable;
    } in
    ((first, rest.0), (behind.0.no_soa, rest.1))

pub plain_small : (query : AxfrQuery) (max : ℕ) (groups : List (List Record)) → max < 2 ^ 16
    → AllByRecursion (λ group. size query group ≤ max) groups → AllByRecursion (λ group. size query group < 2 ^ 16) groups
plain_small query max [] fits small = tt
plain_small query max (group ∷ groups) fits small = (omega (arith, small.0), plain_small query max groups fits small.1)

-- What is sent is a transfer of exactly these records.
pub sendable_is_transfer : (records : List Record) (class : ℕ) (query : AxfrQuery) (max : ℕ) (stream : List ℕ) → max < 2 ^ 16
    → AreSendable class records → IsQueryFor records class query
    → IsSent records query max stream → IsExactTransfer query stream records
sendable_is_transfer [] class query max stream fits are asks sent = absurd are.zone
sendable_is_transfer (soa ∷ others) class query max stream fits are asks sent =
    let cut = sent.cut.fits in
    let each = all_append (IsSendable class) (soa ∷ others) (soa ∷ []) are.each (are.each.0, tt) in
    let P : List Record → Type 0 = λ records. AllByRecursion (IsSendable class) records in
    let grouped = all_joined (IsSendable class) sent.groups (subst P (sym cut.cut.joins) each) in
    let small = plain_small query max sent.groups fits cut.small in
    let ends = ends_with sent.groups (soa ∷ others) soa cut.cut.nonempty cut.cut.joins in
    let rest = behind_soa query class soa others asks.asks are.each.1 are.zone.1 in
    let first : IsInZoneOf query soa = record {
      class = are.each.0.class_is ∙ sym asks.asks.class_is;
      under = record { front = []; whole_is = sym asks.asks.name };
      spellable = are.each.0.spellable;
    } in
    let transfer : IsTransfer query stream (soa ∷ others) = record {
      messages = map (message query) sent.groups;
      each = framable-written query sent.groups small;
      whole = sent.framed;
      groups = sent.groups;
      answers = answers-written query true class (soa ∷ others) sent.groups asks grouped small;
      last = soa;
      front = ends.front;
      last_group = ends.last_group;
      splits = ends.splits;
      joins = ends.joins;
      transferred = (are.zone.0, sym asks.asks.name, (first, rest.0), rest.1);
      closed = (are.zone.0, same_soa soa are.zone.0 are.each.0.data_is);
    } in
    record { transfer = transfer; again = refl }

-- so it is for a parsed zone
pub each_sendable : (class : ℕ) (records : List Record) → AllByRecursion (IsRecordOf class) records → AllByRecursion (IsSendable class) records
each_sendable class [] each = tt
each_sendable class (r ∷ records) each = (each.0.sendable, each_sendable class records each.1)

pub sendable_zone : (class : ℕ) (records : List Record) → AreRecordsOf class records → AreSendable class records
sendable_zone class records are = record { each = each_sendable class records are.each; zone = are.zone }

pub sent_is_transfer : (records : List Record) (class : ℕ) (query : AxfrQuery) (max : ℕ) (stream : List ℕ) → max < 2 ^ 16
    → AreRecordsOf class records → IsQueryFor records class query → IsSent records query max stream → IsExactTransfer query stream records
sent_is_transfer records class query max stream fits are asks sent =
    sendable_is_transfer records class query max stream fits (sendable_zone class records are) asks sent

-- What is sent, and received as a transfer of records, is also what is sent for these records.
pub received_is_sent_again : (records others : List Record) (class : ℕ) (query : AxfrQuery) (max : ℕ) (stream : List ℕ) → max < 2 ^ 16
    → AreSendable class records → IsQueryFor records class query → IsSent records query max stream
    → IsTransfer query stream others → (records ≡ others) × IsSent others query max stream
received_is_sent_again records others class query max stream fits are asks sent received =
    let same = transfer_one query stream records others (sendable_is_transfer records class query max stream fits are asks sent).transfer received in
    let P : List Record → Type 0 = λ records. IsSent records query max stream in
    (same, subst P same sent)
