-- A sent stream is as good as any stream of its records.
use Rattle.std.proofs.Common.{◌≡◌, ℕ, ◌<◌, ◌≤◌, ◌^◌, true, List, [], ◌∷◌, length, map, refl, subst, arith, inl, inr}
use Rattle.std.specs.List.{AllByRecursion, AllZip}
use Rattle.std.proofs.lemmas.Bool.{cases_lt}
use Rattle.std.proofs.lemmas.List.{length-map}
use Rattle.dns_label.specs.Name.{IsName}
use Rattle.dns_name.specs.Page.{Parts}
use Rattle.dns_name.specs.Spelling.{static_spelling, tree_spelling, hash_spelling}
use Rattle.dns_name.specs.Spelling as names
use Rattle.dns_message.specs.Record.{IsWritten}
use Rattle.dns_compression_laws.specs.Groups.{group_parts}
use Rattle.dns_compression_laws.proofs.OwnSpelling.{own_is_free}
use Rattle.dns_compression_laws.specs.Alike.{HaveNames}
use Rattle.zone_records.specs.Record.{Record}
use Rattle.zone_records.specs.Records.{AreRecordsOf, IsRecordOf}
use Rattle.zone_records.proofs.Each.{all_append}
use Rattle.zone_core.specs.Query.{AxfrQuery, IsQuery}
use Rattle.zone_core.specs.Cutting.{Fits}
use Rattle.zone_core.proofs.Cuttings.{grows_fits, full_cut_is_fewest, blocked_fits_no_cutting}
use Rattle.zone_core.proofs.CuttingsWhere.{full_cut_is_fewest_where, blocked_fits_no_cutting_where}
use Rattle.zone_send.specs.Sent.{message, size, with_soa_again, AsksFor, IsQueryFor, IsSent}
use Rattle.zone.specs.View.{apex_of}
use Rattle.zone_send.specs.SentBy.{IsSentBy, IsBlockedBy, IsRefusedFor}
use Rattle.zone_send.specs.Spelled.{answer_head, spelled_size}
use Rattle.zone_send.specs.SpelledSent.{IsSpelledSent, IsTakenAs, spelled_message}
use Rattle.zone_send.specs.Best.{IsFewest, IsSpelledFewest, IsFewestBy, HasNoCuttingBy, FitsNoMessages, IfRecord, IsShortest, IsBest, IsBestBy, IsNearTransfer, IsSentFor, IsTransferBy}
use Rattle.zone_core.specs.declared.spelling.Spelling.{Spelling}
use Rattle.zone_core.specs.declared.spelling.Spelling.TheVariants.{Plain, Static, Tree, Hash}
use Rattle.zone_send.specs.declared.sending.error.SendError.{SendError}
use Rattle.zone_send.specs.declared.sending.error.SendError.TheVariants as send_error
use Rattle.zone_send.proofs.CanonicalTransfers.{kept_canonical}
use Rattle.zone_send.proofs.Plain.{size_grows}
use Rattle.zone_send.proofs.SendFaults.{query_for}
use Rattle.zone_send.proofs.SentOnce.{same_again}
use Rattle.zone_send.proofs.SentTransfers.{plain_small, sendable_zone, sent_is_transfer}
use Rattle.zone_send.proofs.SpelledAnswers.{framable_spelled}
use Rattle.zone_send.proofs.SpelledCuts.{tree_parts_fit, hash_parts_fit, free_takes, free_no_fewer}
use Rattle.zone_send.proofs.SpelledSums.{written_names}
use Rattle.zone_send.proofs.SpelledTransfers.{spelled_small, spelled_exact, spelled_taken}
use Rattle.zone_send.proofs.WrittenAnswers.{framable-written}

-- ---- transfers

near_transfer : (s : names.Spelling) (class : ℕ) (query : AxfrQuery) (records : List Record) (max : ℕ) (stream : List ℕ) → s.folds ≡ true
    → max < 2 ^ 16 → AreRecordsOf class records → IsQueryFor records class query → IsSpelledSent s records query max stream
    → IsNearTransfer query stream records
near_transfer s class query records max stream folds fits are asks sent =
    let t = spelled_taken s records class query max stream fits (sendable_zone class records are) asks sent in
    record {
      others = t.0;
      transfer = t.1;
      near = subst (λ b. AllZip (IsTakenAs b) records t.0) folds t.2;
    }

transfer_by : (spelling : Spelling) (class : ℕ) (query : AxfrQuery) (records : List Record) (max : ℕ) (stream : List ℕ) → max < 2 ^ 16
    → AreRecordsOf class records → IsQueryFor records class query → IsSentBy spelling records query max stream
    → IsTransferBy spelling query stream records
transfer_by Plain class query records max stream fits are asks sent = sent_is_transfer records class query max stream fits are asks sent
transfer_by Static class query records max stream fits are asks sent = near_transfer static_spelling class query records max stream refl fits are asks sent
transfer_by Tree class query records max stream fits are asks sent =
    spelled_exact tree_spelling records class query max stream refl fits (sendable_zone class records are) asks sent
transfer_by Hash class query records max stream fits are asks sent = near_transfer hash_spelling class query records max stream refl fits are asks sent

-- ---- fewest messages

plain_fewest : (query : AxfrQuery) (records : List Record) (max : ℕ) (stream : List ℕ) → max < 2 ^ 16 → IsSent records query max stream
    → IsFewest (size query) max (with_soa_again records) stream
plain_fewest query records max stream fits sent = record {
  messages = map (message query) sent.groups;
  each = framable-written query sent.groups (plain_small query max sent.groups fits sent.cut.fits.small);
  whole = sent.framed;
  fewest = λ groups other.
      let fewer = full_cut_is_fewest (size query) max (with_soa_again records) sent.groups groups (grows_fits (size query) max (size_grows query)) sent.cut other in
      omega (arith, fewer, length-map sent.groups (message query));
}

-- by a full cut, when no cutting has fewer groups
spelled_fewest : (s : names.Spelling) (query : AxfrQuery) (records : List Record) (max : ℕ) (stream : List ℕ) → max < 2 ^ 16
    → (sent : IsSpelledSent s records query max stream)
    → ((groups : List (List Record)) → Fits (spelled_size s query sent.item) max (with_soa_again records) groups → length sent.groups ≤ length groups)
    → IsSpelledFewest s records query max stream
spelled_fewest s query records max stream fits sent fewest = record {
  item = sent.item;
  each = sent.each;
  is = record {
    messages = map (spelled_message s query sent.item) sent.groups;
    each = framable_spelled s sent.item query sent.groups (spelled_small s sent.item query max sent.groups fits sent.cut.fits.small);
    whole = sent.framed;
    fewest = λ groups other.
        let fewer = fewest groups other in
        omega (arith, fewer, length-map sent.groups (spelled_message s query sent.item));
  };
}

-- the names in the parts that a writer gives for a zone's records
named_each : (class : ℕ) (item : Record → Parts) (records : List Record) → AllByRecursion (IsRecordOf class) records
    → AllByRecursion (λ r. IsWritten r (item r)) records → AllByRecursion (λ r. HaveNames (item r)) records
named_each class item [] each given = tt
named_each class item (r ∷ records) each given = (written_names r (item r) each.0.sendable.lawful given.0, named_each class item records each.1 given.1)

named_again : (class : ℕ) (item : Record → Parts) (records : List Record) → AllByRecursion (IsRecordOf class) records
    → AllByRecursion (λ r. IsWritten r (item r)) records → AllByRecursion (λ r. HaveNames (item r)) (with_soa_again records)
named_again class item [] each given = tt
named_again class item (soa ∷ others) each given =
    let all = named_each class item (soa ∷ others) each given in
    all_append (λ r. HaveNames (item r)) (soa ∷ others) (soa ∷ []) all (all.0, tt)

fewest_by : (spelling : Spelling) (class : ℕ) (query : AxfrQuery) (records : List Record) (max : ℕ) (stream : List ℕ) → max < 2 ^ 16
    → AreRecordsOf class records → IsName query.name → IsSentBy spelling records query max stream
    → IsFewestBy spelling records query max stream
fewest_by Plain class query records max stream fits are named sent = plain_fewest query records max stream fits sent
fewest_by Static class query records max stream fits are named sent = tt
fewest_by Tree class query records max stream fits are named sent = λ few.
    spelled_fewest tree_spelling query records max stream fits sent
    (λ groups other. full_cut_is_fewest (spelled_size tree_spelling query sent.item) max (with_soa_again records) sent.groups groups
    (tree_parts_fit query sent.item max few) sent.cut other)
fewest_by Hash class query records max stream fits are named sent = λ few.
    spelled_fewest hash_spelling query records max stream fits sent
    (λ groups other. full_cut_is_fewest_where (λ r. HaveNames (sent.item r)) (spelled_size hash_spelling query sent.item) max
    (hash_parts_fit query sent.item max few named) (with_soa_again records) sent.groups groups
    (named_again class sent.item records are.each sent.each) sent.cut other)

-- ---- none if a record is blocked

no_cutting_by : (spelling : Spelling) (class : ℕ) (query : AxfrQuery) (records : List Record) (max n : ℕ)
    → AreRecordsOf class records → IsName query.name → IsBlockedBy spelling records query max n → HasNoCuttingBy spelling records query max
no_cutting_by Plain class query records max n are named blocked = λ groups fits.
    blocked_fits_no_cutting (size query) max (with_soa_again records) n groups (grows_fits (size query) max (size_grows query)) blocked fits
no_cutting_by Static class query records max n are named blocked = tt
no_cutting_by Tree class query records max n are named blocked = λ few. record {
  item = blocked.item;
  each = blocked.each;
  none = λ groups fits.
      blocked_fits_no_cutting (spelled_size tree_spelling query blocked.item) max (with_soa_again records) n groups
      (tree_parts_fit query blocked.item max few) blocked.blocked fits;
}
no_cutting_by Hash class query records max n are named blocked = λ few. record {
  item = blocked.item;
  each = blocked.each;
  none = λ groups fits.
      blocked_fits_no_cutting_where (λ r. HaveNames (blocked.item r)) (spelled_size hash_spelling query blocked.item) max
      (hash_parts_fit query blocked.item max few named) (with_soa_again records) n groups
      (named_again class blocked.item records are.each blocked.each) blocked.blocked fits;
}

-- if the fault is a record's number
none_of_fault : (spelling : Spelling) (class : ℕ) (query : AxfrQuery) (records : List Record) (octets : List ℕ) (max : ℕ) (error : SendError)
    → IsQuery octets query → AreRecordsOf class records → IsRefusedFor spelling records query max error
    → IfRecord error (FitsNoMessages spelling records octets max)
none_of_fault spelling class query records octets max (send_error.Query fault) is are refused = tt
none_of_fault spelling class query records octets max send_error.WrongZone is are refused = tt
none_of_fault spelling class query records octets max (send_error.Record n) is are refused =
    record { query = query; is = is; none = no_cutting_by spelling class query records max n are is.question.name.is_name refused }
none_of_fault spelling class query records octets max send_error.OutOfMemory is are refused = tt

pub none_for : (spelling : Spelling) (class : ℕ) (query : AxfrQuery) (held records : List Record) (octets : List ℕ) (max : ℕ) (error : SendError)
    → IsQuery octets query → AreRecordsOf class records → held ≡ records → IsRefusedFor spelling held query max error
    → IfRecord error (FitsNoMessages spelling records octets max)
none_for spelling class query held records octets max error is are same refused =
    none_of_fault spelling class query records octets max error is are (subst (λ rs. IsRefusedFor spelling rs query max error) same refused)

-- ---- best spelling

-- a message written with a tree is a shortest one
shortest_message : (query : AxfrQuery) (item : Record → Parts) (group : List Record) → spelled_size tree_spelling query item group ≤ 16384
    → IsShortest query item (spelled_message tree_spelling query item group) group
shortest_message query item group few = record {
  free = own_is_free tree_spelling refl (group_parts (answer_head query) item group);
  shortest = λ rival free.
      elim (cases_lt 16384 (length rival)) [
        | inl long ↦ omega (arith, few, long)
        | inr short ↦ free_takes query item rival group short free
      ];
}

shortest_each : (query : AxfrQuery) (item : Record → Parts) (max : ℕ) (groups : List (List Record)) → max ≤ 16384
    → AllByRecursion (λ group. spelled_size tree_spelling query item group ≤ max) groups
    → AllZip (IsShortest query item) (map (spelled_message tree_spelling query item) groups) groups
shortest_each query item max [] few small = tt
shortest_each query item max (group ∷ groups) few small =
    (shortest_message query item group (omega (arith, small.0)), shortest_each query item max groups few small.1)

pub tree_best : (query : AxfrQuery) (records : List Record) (max : ℕ) (stream : List ℕ) → max ≤ 16384
    → IsSpelledSent tree_spelling records query max stream → IsBest records query max stream
tree_best query records max stream few sent = record {
  item = sent.item;
  each = sent.each;
  messages = map (spelled_message tree_spelling query sent.item) sent.groups;
  framable = framable_spelled tree_spelling sent.item query sent.groups
      (spelled_small tree_spelling sent.item query max sent.groups (omega arith) sent.cut.fits.small);
  whole = sent.framed;
  groups = sent.groups;
  cut = sent.cut.fits.cut;
  shortest = shortest_each query sent.item max sent.groups few sent.cut.fits.small;
  fewest = λ rivals others cut spell.
      let fewer = free_no_fewer query sent.item max (with_soa_again records) sent.groups others rivals few sent.cut cut spell in
      omega (arith, fewer, length-map sent.groups (spelled_message tree_spelling query sent.item));
}

best_by : (spelling : Spelling) (query : AxfrQuery) (records : List Record) (max : ℕ) (stream : List ℕ)
    → IsSentBy spelling records query max stream → IsBestBy spelling records query max stream
best_by Plain query records max stream sent = tt
best_by Static query records max stream sent = tt
best_by Tree query records max stream sent = λ few. tree_best query records max stream few sent
best_by Hash query records max stream sent = tt

-- ---- all of it

sent_zone : (spelling : Spelling) (class : ℕ) (query : AxfrQuery) (records : List Record) (octets : List ℕ) (max : ℕ) (stream : List ℕ)
    → max < 2 ^ 16 → query.id < 2 ^ 16 → IsQuery octets query → AsksFor query (apex_of records) class → AreRecordsOf class records
    → IsSentBy spelling records query max stream → IsSentFor spelling records class octets max stream
sent_zone spelling class query records octets max stream fits small is asks are sent =
    let sendable = sendable_zone class records are in
    let is_for = query_for query class records octets is small asks are in
    record {
      query = query;
      is = is;
      asks = asks;
      sent = sent;
      transfer = transfer_by spelling class query records max stream fits are is_for sent;
      fewest = fewest_by spelling class query records max stream fits are is.question.name.is_name sent;
      best = best_by spelling query records max stream sent;
      again = λ keeps others other received next.
          same_again spelling records others class query max stream other keeps fits sendable is_for sent received next;
      canonical = λ others form received. kept_canonical spelling records others class query max stream form fits sendable is_for sent received;
    }

pub sent_for : (spelling : Spelling) (class : ℕ) (query : AxfrQuery) (held records : List Record) (octets : List ℕ) (max : ℕ) (stream : List ℕ)
    → max < 2 ^ 16 → query.id < 2 ^ 16 → IsQuery octets query → AsksFor query (apex_of records) class → AreRecordsOf class records
    → held ≡ records → IsSentBy spelling held query max stream → IsSentFor spelling records class octets max stream
sent_for spelling class query held records octets max stream fits small is asks are same sent =
    sent_zone spelling class query records octets max stream fits small is asks are
    (subst (λ rs. IsSentBy spelling rs query max stream) same sent)
