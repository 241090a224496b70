-- The records that a stream of octets transfers are a zone of octets.
use Rattle.std.proofs.Common.{ℕ, ◌+◌, Bool, true, false, List, [], ◌∷◌, ◌++◌, length, take, drop, refl, sym, subst, arith, take-append-drop}
use Rattle.std.specs.Prelude.{⊤}
use Rattle.std.specs.Int.{to_be_bytes, w16}
use Rattle.std.specs.List.{AllByRecursion}
use Rattle.dns_label.specs.Name.{IsLabel, wire}
use Rattle.dns_label.specs.Octets.{AreOctets, IsOctet}
use Rattle.dns_label.specs.Spelled.{EncodesName}
use Rattle.dns_label.specs.Spelled.EncodesName.{root, label, pointer}
use Rattle.dns_name.specs.Page.{Parts}
use Rattle.dns_name.specs.Page.Parts.{Counted, End, Named, Octets}
use Rattle.dns_name.specs.SpelledParts.{SpellsParts}
use Rattle.dns_name.specs.SpelledParts.SpellsParts.{counted, named, nothing, octets}
use Rattle.dns_rdata.specs.Fields.{Field, IsData, IsField, compressible, field_octets, uncompressed}
use Rattle.dns_rdata.specs.Fields as fields
use Rattle.dns_header.specs.Head.{after_length, fixed_octets}
use Rattle.zone_records.specs.MessageRecord.{IsRead, IsRecord, read_parts, record_octets}
use Rattle.zone_records.specs.MessageRecord.IsRead.{unknown, typed}
use Rattle.zone_records.proofs.Numbers.{octets_from}
use Rattle.zone_records.specs.Record.{Record}
use Rattle.zone_records.specs.Records.{AreRecordsOf, IsRecordOf}
use Rattle.zone_records.proofs.Each.{all_append, all_fronts}
use Rattle.zone_records.proofs.OctetFronts.{octets_behind, octets_front}
use Rattle.zone_core.specs.Cutting.{joined}
use Rattle.zone_core.specs.Frames.{frame, frames}
use Rattle.zone_core.specs.Query.{AxfrQuery}
use Rattle.zone_core.specs.Transfer.{AreAnswers, IsInZoneOf, IsTransfer, IsTransferred, SpellsRecords}
use Rattle.zone_core.specs.Transfer.SpellsRecords.{none, one}
use Rattle.zone_core.proofs.OneTransfer.{transferred_and_last}
use Rattle.zone_receive.proofs.ReceivedZones.{transferred_is_zone}
use Rattle.zone_receive.proofs.RulesKept.{known_record}
use Rattle.zone_receive.proofs.SpelledRecords.{read_has_data}

-- ---- names and parts

name_octets : (message : List ℕ) {pointers place next : ℕ} {name : List (List ℕ)} → AreOctets message
    → EncodesName message pointers place name next → AllByRecursion AreOctets name
name_octets message each (root rest at) = tt
name_octets message {place = place} each (label {label = text} rest at is_label parent) =
    let here : AreOctets (length text ∷ text) =
    octets_front (drop place message) (length text ∷ text) rest at (octets_from place message each) in
    (here.1, name_octets message each parent)
name_octets message each (pointer first second after rest at both back name) = name_octets message each name

-- octets are octets, and the labels of names are
abbrev HaveOctets : Parts → Type 0
HaveOctets End = ⊤
HaveOctets (Octets text parts) = AreOctets text × HaveOctets parts
HaveOctets (Named name parts) = AllByRecursion AreOctets name × HaveOctets parts
HaveOctets (Counted inner parts) = HaveOctets inner × HaveOctets parts

parts_octets : {message : List ℕ} {place next : ℕ} {parts : Parts} → AreOctets message → SpellsParts message place parts next → HaveOctets parts
parts_octets each (nothing within) = tt
parts_octets {message} {place = place} each (octets {text = text} rest at behind) =
    (octets_front (drop place message) text rest at (octets_from place message each), parts_octets each behind)
parts_octets {message} each (named behind reads more) = (name_octets message each reads.spelled, parts_octets each more)
parts_octets {message} {place = place} each (counted count rest at small whole inner behind) =
    let end : ℕ = place + 2 + count in
    let front : AreOctets (take end message) = octets_front message (take end message) (drop end message) (sym (take-append-drop end message)) each in
    (parts_octets front inner, parts_octets each behind)

-- ---- records

wire_octets : (name : List (List ℕ)) → AllByRecursion IsLabel name → AllByRecursion AreOctets name → AreOctets (wire name)
wire_octets [] labels each = (omega arith, tt)
wire_octets (text ∷ name) labels each =
    let short = labels.0.short in
    (omega (arith, short), all_append IsOctet text (wire name) each.0 (wire_octets name labels.1 each.1))

row_octets : (row : List Field) → AllByRecursion IsField row → HaveOctets (read_parts row) → AreOctets (fields.octets row)
row_octets [] each parts = tt
row_octets (compressible name ∷ row) each parts =
    all_append IsOctet (wire name) (fields.octets row) (wire_octets name each.0.labels parts.0) (row_octets row each.1 parts.1)
row_octets (uncompressed name ∷ row) each parts =
    all_append IsOctet (wire name) (fields.octets row) (wire_octets name each.0.labels parts.0) (row_octets row each.1 parts.1)
row_octets (field ∷ row) each parts = all_append IsOctet (field_octets field) (fields.octets row) parts.0 (row_octets row each.1 parts.1)

number_octets : (n : ℕ) → AreOctets (to_be_bytes w16 n)
number_octets n = (omega arith, (omega arith, tt))

-- a record, every name of it written out
record_octets_are : (r : Record) → IsRecord r → AllByRecursion AreOctets r.owner → AreOctets (fixed_octets r.rtype r.class r.ttl) → AreOctets r.rdata
    → AreOctets (record_octets r)
record_octets_are r lawful owner fixed rdata =
    let named = wire_octets r.owner lawful.owner.labels owner in
    let front = all_append IsOctet (wire r.owner) (fixed_octets r.rtype r.class r.ttl) named fixed in
    let counted = all_append IsOctet (to_be_bytes w16 (length r.rdata)) r.rdata (number_octets (length r.rdata)) rdata in
    all_append IsOctet (wire r.owner ++ fixed_octets r.rtype r.class r.ttl) (after_length r.rdata) front counted

record IsOfOctets (r : Record) : Type 0 where
  lawful : IsRecord r
  data_is : IsData r.rtype r.rdata
  written : AreOctets (record_octets r)

read_octets : (r : Record) {parts : Parts} → IsRecord r → IsRead r parts → HaveOctets parts → AreOctets (record_octets r)
read_octets r lawful (typed row is_row same) parts =
    record_octets_are r lawful parts.0 parts.1.0 (subst AreOctets (sym same) (row_octets row is_row.each parts.1.1.0))
read_octets r lawful (unknown no_fields) parts = record_octets_are r lawful parts.0 parts.1.0 parts.1.1.0.0

spelled_octets : {message : List ℕ} {place next : ℕ} {records : List Record} → AreOctets message
    → SpellsRecords message place records next → AllByRecursion IsOfOctets records
spelled_octets each none = tt
spelled_octets each (one {r = r} behind has more) = (
  record {
    lawful = has.is_record;
    data_is = read_has_data r has;
    written = read_octets r has.is_record has.read (parts_octets each has.spelled);
  },
  spelled_octets each more,
)

-- ---- streams

messages_octets : (messages : List (List ℕ)) → AreOctets (frames messages) → AllByRecursion AreOctets messages
messages_octets [] each = tt
messages_octets (message ∷ messages) each =
    let both = all_fronts IsOctet (frame message) (frames messages) each in
    (octets_behind (frame message) (to_be_bytes w16 (length message)) message refl both.0, messages_octets messages both.1)

answers_octets : (query : AxfrQuery) (first : Bool) (messages : List (List ℕ)) (groups : List (List Record))
    → AllByRecursion AreOctets messages → AreAnswers query first messages groups → AllByRecursion IsOfOctets (joined groups)
answers_octets query first [] [] each answers = tt
answers_octets query first [] (group ∷ groups) each answers = absurd answers
answers_octets query first (message ∷ messages) [] each answers = absurd answers
answers_octets query first (message ∷ messages) (group ∷ groups) each answers =
    all_append IsOfOctets group (joined groups) (spelled_octets each.0 answers.0.spelled)
    (answers_octets query false messages groups each.1 answers.1)

each_known : (query : AxfrQuery) (records : List Record) → AllByRecursion (IsInZoneOf query) records → AllByRecursion IsOfOctets records
    → AllByRecursion (IsRecordOf query.class) records
each_known query [] inside each = tt
each_known query (r ∷ records) inside each = (
  known_record query.class (record_octets r) r each.0.lawful each.0.data_is inside.0.class inside.0.spellable each.0.written refl,
  each_known query records inside.1 each.1,
)

inside_zone : (query : AxfrQuery) (records : List Record) → IsTransferred query records → AllByRecursion (IsInZoneOf query) records
inside_zone query [] transferred = absurd transferred
inside_zone query (soa ∷ others) transferred = transferred.2

pub transfer_is_zone : (query : AxfrQuery) (stream : List ℕ) (records : List Record) → AreOctets stream → IsTransfer query stream records
    → AreRecordsOf query.class records
transfer_is_zone query stream records each transfer =
    let messages = messages_octets transfer.messages (subst AreOctets transfer.whole each) in
    let all = answers_octets query true transfer.messages transfer.groups messages transfer.answers in
    let known = all_fronts IsOfOctets records (transfer.last ∷ [])
    (subst (AllByRecursion IsOfOctets) (transferred_and_last query stream records transfer) all) in
    record {
      each = each_known query records (inside_zone query records transfer.transferred) known.0;
      zone = transferred_is_zone query records transfer.transferred;
    }
