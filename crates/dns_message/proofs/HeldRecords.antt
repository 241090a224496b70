-- A record is spelled exactly if its header and its data are parsed.
use Rattle.std.proofs.Common.{◌≡◌, ℕ, ◌+◌, ◌<◌, ◌≤◌, ◌^◌, List, [], ◌∷◌, ◌++◌, length, take, drop, refl, sym, ap, ◌∙◌, subst, arith, append-nil, length-append, length-drop, length-take-le, None}
use Rattle.std.specs.Int.{to_be_bytes, from_be_bytes, w16, w32}
use Rattle.std.proofs.lemmas.Nat.{from_be_bytes-to_be_bytes_2, from_be_bytes-to_be_bytes_4}
use Rattle.dns_label.proofs.Spelling.{drop_behind}
use Rattle.dns_name.specs.SpelledParts.{SpellsParts}
use Rattle.dns_name.specs.SpelledParts.SpellsParts.{nothing, octets, named, counted}
use Rattle.dns_name.specs.Page.{Parts}
use Rattle.dns_name.specs.Page.Parts.{End, Octets}
use Rattle.dns_rdata.specs.Fields as fields
use Rattle.dns_rdata.specs.Fields.{IsRow, kinds_of}
use Rattle.dns_rdata.specs.Data as data_specs
use Rattle.dns_rdata.specs.Data.{Data, number_of}
use Rattle.dns_rdata.specs.Data.Data.{typed as in_fields, unknown_data}
use Rattle.dns_rdata.specs.DataOctets.{data_octets}
use Rattle.dns_octets.specs.Numbers.{number_at}
use Rattle.dns_header.specs.Head as head_specs
use Rattle.dns_header.specs.Head.{Head, ReadsHead, ReadsWhole, fixed_octets}
use Rattle.dns_header.specs.Record.{RecordOf}
use Rattle.dns_header.specs.ParsedRecord.{Parsed, HoldsRecord, IsRecordOf}
use Rattle.dns_octets.specs.Parser.{octets_of, place_of}
use Rattle.dns_message.specs.Record.{Record, IsRecord, IsRead, ReadsRecord, read_parts, record_parts}
use Rattle.dns_message.specs.Record.IsRead.{typed, unknown}
use Rattle.dns_message.specs.Record.{IsWritten}
use Rattle.dns_message.specs.Record.IsWritten.{fields as in_row, untold}
use Rattle.dns_message.specs.Held.{record_of, written_parts_of, TakesRecord}
use Rattle.dns_message.proofs.Numbers.{AreOctets, number16, number32}
use Rattle.dns_header.proofs.Heads.{heads_one}
use Rattle.dns_message.proofs.Opened.{opened}

-- a record header, and the parts of the data
abbrev parts_with : Head (List (List ℕ)) → Parts → Parts
parts_with head parts = head_specs.record_parts head.owner head.rtype head.class head.ttl parts

record SmallNumbers (head : Head (List (List ℕ))) : Type 0 where
  rtype : head.rtype < 2 ^ 16
  class : head.class < 2 ^ 16
  ttl : head.ttl < 2 ^ 32
  data_len : head.data_len < 2 ^ 16

-- a record header that is read, as octets
record HeadStands (message : List ℕ) (head : Head (List (List ℕ))) (behind : ℕ) : Type 0 where
  small : SmallNumbers head
  fixed : drop behind message ≡ fixed_octets head.rtype head.class head.ttl ++ drop (behind + 8) message
  len : drop (behind + 8) message ≡ to_be_bytes w16 head.data_len ++ drop (behind + 10) message

head_stands : {message : List ℕ} {place next : ℕ} {head : Head (List (List ℕ))} → AreOctets message
    → (reads : ReadsHead message place head next) → HeadStands message head reads.behind
head_stands {message} {head = head} each reads =
    let rtype = number16 message reads.behind (reads.behind + 2) each refl (omega (arith, reads.whole)) in
    let class = number16 message (reads.behind + 2) (reads.behind + 4) each (omega arith) (omega (arith, reads.whole)) in
    let ttl = number32 message (reads.behind + 4) (reads.behind + 8) each (omega arith) (omega (arith, reads.whole)) in
    let len = number16 message (reads.behind + 8) (reads.behind + 10) each (omega arith) reads.whole in
    record {
      small = record {
        rtype = subst (λ n. n < 2 ^ 16) (sym reads.rtype) rtype.0;
        class = subst (λ n. n < 2 ^ 16) (sym reads.class) class.0;
        ttl = subst (λ n. n < 2 ^ 32) (sym reads.ttl) ttl.0;
        data_len = subst (λ n. n < 2 ^ 16) (sym reads.data_len) len.0;
      };
      fixed = rtype.1 ∙ ap (λ l. to_be_bytes w16 (number_at message reads.behind) ++ l)
          (class.1 ∙ ap (λ l. to_be_bytes w16 (number_at message (reads.behind + 2)) ++ l) ttl.1)
          ∙ (λ i. fixed_octets (sym reads.rtype i) (sym reads.class i) (sym reads.ttl i) ++ drop (reads.behind + 8) message);
      len = len.1 ∙ (λ i. to_be_bytes w16 (sym reads.data_len i) ++ drop (reads.behind + 10) message);
    }

-- if a record header is read, and its data is spelled, the record is
head_spelled : {message : List ℕ} {place data_place next : ℕ} {head : Head (List (List ℕ))} (parts : Parts) → AreOctets message
    → ReadsWhole message place head data_place next → SpellsParts (take next message) data_place parts next
    → SpellsParts message place (parts_with head parts) next
head_spelled {message} {place} {data_place} {next} {head} parts each whole held =
    let reads = whole.reads in
    let stands = head_stands each reads in
    let end : reads.behind + 8 + 2 + head.data_len ≡ next = omega (arith, whole.ends, reads.ends) in
    let from : data_place ≡ reads.behind + 8 + 2 = omega (arith, reads.ends) in
    let P : ℕ → ℕ → Type 0 = λ place next. SpellsParts (take next message) place parts next in
    let inside : SpellsParts (take (reads.behind + 8 + 2 + head.data_len) message) (reads.behind + 8 + 2) parts (reads.behind + 8 + 2 + head.data_len) =
    subst (λ n. P n (reads.behind + 8 + 2 + head.data_len)) from (subst (P data_place) (sym end) held) in
    let fits : reads.behind + 8 + 2 + head.data_len ≤ length message = omega (arith, end, whole.within) in
    let Q : ℕ → Type 0 = λ next. SpellsParts message place (parts_with head parts) next in
    subst Q end
    (named reads.behind reads.owner (octets (drop (reads.behind + 8) message) stands.fixed
    (counted head.data_len (drop (reads.behind + 10) message) stands.len stands.small.data_len fits inside (nothing fits))))

-- what is read if a record is spelled
record HeadOpened (message : List ℕ) (place : ℕ) (r : Record) (parts : Parts) (next : ℕ) : Type 0 where
  head : Head (List (List ℕ))
  data_place : ℕ
  whole : ReadsWhole message place head data_place next
  held : SpellsParts (take next message) data_place parts next
  owner : r.owner ≡ head.owner
  rtype : r.rtype ≡ head.rtype
  class : r.class ≡ head.class
  ttl : r.ttl ≡ head.ttl

head_opened : {message : List ℕ} {place next : ℕ} (r : Record) (parts : Parts) → IsRecord r
    → SpellsParts message place (record_parts r parts) next → HeadOpened message place r parts next
head_opened {message} {place} {next} r parts good spelled =
    let named = opened spelled in
    let begins = opened named.behind in
    let counts = opened begins.behind in
    let end : ℕ = named.end in
    let count : ℕ = counts.count in
    let numbers : List ℕ = to_be_bytes w16 r.class ++ (to_be_bytes w32 r.ttl ++ begins.rest) in
    let at : drop end message ≡ to_be_bytes w16 r.rtype ++ numbers = begins.at in
    let at2 : drop (end + 2) message ≡ numbers = drop_behind message end (end + 2) (to_be_bytes w16 r.rtype) numbers at refl in
    let at4 : drop (end + 4) message ≡ to_be_bytes w32 r.ttl ++ begins.rest =
    drop_behind message (end + 2) (end + 4) (to_be_bytes w16 r.class) (to_be_bytes w32 r.ttl ++ begins.rest) at2 (omega arith) in
    let at8 : drop (end + 8) message ≡ to_be_bytes w16 count ++ counts.rest = counts.at in
    let ends : next ≡ end + 8 + 2 + count = opened counts.behind in
    let P : ℕ → Type 0 = λ next. SpellsParts (take next message) (end + 8 + 2) parts next in
    let held : SpellsParts (take next message) (end + 8 + 2) parts next = subst P (sym ends) counts.held in
    record {
      head = record { owner = r.owner; rtype = r.rtype; class = r.class; ttl = r.ttl; data_len = count };
      data_place = end + 8 + 2;
      whole = record {
        reads = record {
          behind = end;
          owner = named.reads;
          whole = omega (arith, counts.within);
          rtype = sym (from_be_bytes-to_be_bytes_2 r.rtype good.rtype) ∙ ap (λ l. from_be_bytes w16 (take 2 l)) (sym at);
          class = sym (from_be_bytes-to_be_bytes_2 r.class good.class) ∙ ap (λ l. from_be_bytes w16 (take 2 l)) (sym at2);
          ttl = sym (from_be_bytes-to_be_bytes_4 r.ttl good.ttl) ∙ ap (λ l. from_be_bytes w32 (take 4 l)) (sym at4);
          data_len = sym (from_be_bytes-to_be_bytes_2 count counts.small) ∙ ap (λ l. from_be_bytes w16 (take 2 l)) (sym at8);
          ends = omega arith;
        };
        ends = ends;
        within = omega (arith, ends, counts.within);
      };
      held = held;
      owner = refl;
      rtype = refl;
      class = refl;
      ttl = refl;
    }

nothing_left : (text : List ℕ) → length text ≡ 0 → text ≡ []
nothing_left [] none = refl
nothing_left (x ∷ text) none = absurd (omega arith)

-- unknown data is all that remains
unknown_spelled : {message : List ℕ} {place : ℕ} (text : List ℕ) → place ≤ length message → text ≡ drop place message
    → SpellsParts message place (Octets text End) (length message)
unknown_spelled {message} {place} text within is =
    let ends : place + length text ≡ length message = omega (arith, ap (length {A = ℕ}) is, length-drop place message) in
    let P : ℕ → Type 0 = λ next. SpellsParts message (place + length text) End next in
    octets [] (sym is ∙ sym (append-nil text)) (subst P ends (nothing (omega arith)))

unknown_opened : {message : List ℕ} {place : ℕ} (text : List ℕ) → SpellsParts message place (Octets text End) (length message)
    → text ≡ drop place message
unknown_opened {message} {place} text spelled =
    let begins = opened spelled in
    let ends : length message ≡ place + length text = opened begins.behind in
    let none = nothing_left begins.rest (omega (arith, ap (length {A = ℕ}) begins.at, length-drop place message, length-append text begins.rest)) in
    sym (begins.at ∙ ap (λ l. text ++ l) none ∙ append-nil text)

-- the record of a record header with these octets
abbrev with_octets : Head (List (List ℕ)) → List ℕ → Record
with_octets head text = record { owner = head.owner; rtype = head.rtype; class = head.class; ttl = head.ttl; rdata = text }

good_record : {message : List ℕ} {place data_place next : ℕ} {head : Head (List (List ℕ))} (text : List ℕ) → AreOctets message
    → ReadsWhole message place head data_place next → length text < 2 ^ 16 → IsRecord (with_octets head text)
good_record text each whole few =
    let stands = head_stands each whole.reads in
    record {
      owner = whole.reads.owner.is_name;
      rtype = stands.small.rtype;
      class = stands.small.class;
      ttl = stands.small.ttl;
      rdata = few;
    }

data_read : {message : List ℕ} {place data_place next : ℕ} {head : Head (List (List ℕ))} (rdata : Data) → AreOctets message
    → ReadsWhole message place head data_place next → data_specs.ReadsData (take next message) data_place head.rtype rdata
    → ReadsRecord message place (with_octets head (data_octets rdata)) next
data_read {message} {place} {data_place} {next} {head} (in_fields number row) each whole reads =
    let P : ℕ → Type 0 = λ end. SpellsParts (take next message) data_place (read_parts row) end in
    let held = subst P (length-take-le next message whole.within) reads.1.spelled in
    record {
      is_record = good_record (fields.octets row) each whole reads.1.is_row.short;
      parts = parts_with head (read_parts row);
      read = typed row reads.1.is_row refl;
      spelled = head_spelled (read_parts row) each whole held;
    }
data_read {message} {place} {data_place} {next} {head} (unknown_data found) each whole reads =
    let long : length (take next message) ≡ next = length-take-le next message whole.within in
    let P : ℕ → Type 0 = λ end. SpellsParts (take next message) data_place (Octets found.octets End) end in
    let held = subst P long (unknown_spelled found.octets (omega (arith, long, whole.ends)) reads.1.octets) in
    record {
      is_record = good_record found.octets each whole (omega (arith, reads.1.short));
      parts = parts_with head (Octets found.octets End);
      read = unknown reads.0;
      spelled = head_spelled (Octets found.octets End) each whole held;
    }

number_read : (message : List ℕ) (place rtype : ℕ) (rdata : Data) → data_specs.ReadsData message place rtype rdata → number_of rdata ≡ rtype
number_read message place rtype (in_fields number row) reads = reads.0
number_read message place rtype (unknown_data found) reads = reads.1.of_type

-- what the code parses is a record of the message
pub taken_read : {message : List ℕ} {place next : ℕ} (rr : RecordOf (List (List ℕ)) Data) → AreOctets message
    → TakesRecord message place rr next → ReadsRecord message place (record_of rr) next
taken_read {message} {place} {next} rr each taken =
    let held = taken.held in
    let P : ℕ → Type 0 = λ end. data_specs.ReadsData (take end message) taken.data_place taken.head.rtype rr.rdata in
    let reads = subst P (sym taken.whole.ends) held.rdata in
    let number = number_read (take next message) taken.data_place taken.head.rtype rr.rdata reads in
    let same : with_octets taken.head (data_octets rr.rdata) ≡ record_of rr =
    λ i. record {
      owner = sym held.owner i;
      rtype = sym number i;
      class = sym held.class i;
      ttl = sym held.ttl i;
      rdata = data_octets rr.rdata;
    } in
    let Q : Record → Type 0 = λ r. ReadsRecord message place r next in
    subst Q same (data_read rr.rdata each taken.whole reads)

-- the data of a record that is spelled, as the code has it
record DataOpened (message : List ℕ) (place : ℕ) (r : Record) (next : ℕ) : Type 0 where
  parts : Parts
  front : HeadOpened message place r parts next
  rdata : Data
  reads : data_specs.ReadsData (take next message) front.data_place r.rtype rdata
  number : number_of rdata ≡ r.rtype
  is : data_octets rdata ≡ r.rdata

data_opened : {message : List ℕ} {place next : ℕ} {parts : Parts} (r : Record) → IsRecord r → IsRead r parts → SpellsParts message place parts next
    → DataOpened message place r next
data_opened {message} {place} {next} r good (typed row is_row is) spelled =
    let front = head_opened r (read_parts row) good spelled in
    let P : ℕ → Type 0 = λ end. SpellsParts (take next message) front.data_place (read_parts row) end in
    let held = subst P (sym (length-take-le next message front.whole.within)) front.held in
    record {
      parts = read_parts row;
      front = front;
      rdata = in_fields r.rtype row;
      reads = (refl, record { is_row = is_row; spelled = held });
      number = refl;
      is = sym is;
    }
data_opened {message} {place} {next} r good (unknown none) spelled =
    let front = head_opened r (Octets r.rdata End) good spelled in
    let P : ℕ → Type 0 = λ end. SpellsParts (take next message) front.data_place (Octets r.rdata End) end in
    let held = subst P (sym (length-take-le next message front.whole.within)) front.held in
    let short : length r.rdata ≤ 65535 = omega (arith, good.rdata) in
    record {
      parts = Octets r.rdata End;
      front = front;
      rdata = unknown_data (record { number = r.rtype; octets = r.rdata });
      reads = (none, record { of_type = refl; octets = unknown_opened r.rdata held; short = short });
      number = refl;
      is = refl;
    }

pub record Taken (message : List ℕ) (place : ℕ) (r : Record) (next : ℕ) : Type 0 where
  pub rr : RecordOf (List (List ℕ)) Data
  pub taken : TakesRecord message place rr next
  pub is : record_of rr ≡ r

-- a record of the message is what the code parses
pub read_taken : {message : List ℕ} {place next : ℕ} (r : Record) → ReadsRecord message place r next → Taken message place r next
read_taken {message} {place} {next} r reads =
    let it = data_opened r reads.is_record reads.read reads.spelled in
    let front = it.front in
    let P : ℕ → ℕ → Type 0 = λ end rtype. data_specs.ReadsData (take end message) front.data_place rtype it.rdata in
    let rdata = subst (λ end. P end front.head.rtype) front.whole.ends (subst (P next) front.rtype it.reads) in
    record {
      rr = record { owner = r.owner; class = r.class; ttl = r.ttl; rdata = it.rdata };
      taken = record {
        head = front.head;
        data_place = front.data_place;
        whole = front.whole;
        held = record {
          within = omega (arith, front.whole.ends, front.whole.within);
          owner = front.owner;
          class = front.class;
          ttl = front.ttl;
          rdata = rdata;
        };
      };
      is = λ i. record { owner = r.owner; rtype = it.number i; class = r.class; ttl = r.ttl; rdata = it.is i };
    }

-- an item of a cursor, with its data parsed
pub item_taken : {message : List ℕ} {place next : ℕ} {item : Parsed} {rr : RecordOf (List (List ℕ)) Data}
    → HoldsRecord message place item next → IsRecordOf data_specs.ReadsData item rr → TakesRecord message place rr next
item_taken {message} {place} {next} {item} {rr} holds is =
    let P : List ℕ → Type 0 = λ octets. data_specs.ReadsData octets (place_of item.rdata) item.head.rtype rr.rdata in
    let rdata = subst P (holds.octets ∙ ap (λ end. take end message) holds.whole.ends) is.rdata in
    record {
      head = item.head;
      data_place = place_of item.rdata;
      whole = holds.whole;
      held = record {
        within = omega (arith, holds.whole.ends, holds.whole.within);
        owner = is.owner;
        class = is.class;
        ttl = is.ttl;
        rdata = rdata;
      };
    }

-- if the message has a record, the item of a cursor is that record
pub record ItemRead (message : List ℕ) (item : Parsed) (r : Record) (next end : ℕ) : Type 0 where
  pub ends : end ≡ next
  pub rr : RecordOf (List (List ℕ)) Data
  pub read : IsRecordOf data_specs.ReadsData item rr
  pub is : record_of rr ≡ r

pub item_read : {message : List ℕ} {place next end : ℕ} {item : Parsed} (r : Record) → ReadsRecord message place r next
    → HoldsRecord message place item end → ItemRead message item r next end
item_read {message} {place} {next} {end} {item} r reads holds =
    let it = read_taken r reads in
    let whole = it.taken.whole in
    let held = it.taken.held in
    let same = heads_one whole.reads holds.whole.reads in
    let at : ℕ = place_of item.rdata in
    let P : Head (List (List ℕ)) → ℕ → Type 0 = λ head place. data_specs.ReadsData (take (place + head.data_len) message) place head.rtype it.rr.rdata in
    let Q : List ℕ → Type 0 = λ octets. data_specs.ReadsData octets at item.head.rtype it.rr.rdata in
    let octets : take (at + item.head.data_len) message ≡ octets_of item.rdata =
    ap (λ n. take n message) (sym holds.whole.ends) ∙ sym holds.octets in
    record {
      ends = omega (arith, whole.ends, holds.whole.ends, same.1, ap (λ (h : Head (List (List ℕ))). h.data_len) same.0);
      rr = it.rr;
      read = record {
        owner = held.owner ∙ ap (λ (h : Head (List (List ℕ))). h.owner) same.0;
        class = held.class ∙ ap (λ (h : Head (List (List ℕ))). h.class) same.0;
        ttl = held.ttl ∙ ap (λ (h : Head (List (List ℕ))). h.ttl) same.0;
        rdata = subst Q octets (subst (λ (h : Head (List (List ℕ))). P h at) same.0 (subst (P it.taken.head) same.1 held.rdata));
      };
      is = it.is;
    }

-- and the code writes it with a record's parts
held_written : (message : List ℕ) (place rtype : ℕ) (rr : RecordOf (List (List ℕ)) Data) (rdata : Data) → rr.rdata ≡ rdata
    → data_specs.ReadsData message place rtype rdata → IsWritten (record_of rr) (written_parts_of rr)
held_written message place rtype rr (in_fields number row) is reads =
    let row_is : IsRow number row = subst (λ n. IsRow n row) (sym reads.0) reads.1.is_row in
    let P : Data → Type 0 = λ rdata. let other = record rr { rdata = rdata } in IsWritten (record_of other) (written_parts_of other) in
    subst P (sym is) (in_row row row_is refl)
held_written message place rtype rr (unknown_data found) is reads =
    let none : kinds_of found.number ≡ None = ap kinds_of reads.1.of_type ∙ reads.0 in
    let P : Data → Type 0 = λ rdata. let other = record rr { rdata = rdata } in IsWritten (record_of other) (written_parts_of other) in
    subst P (sym is) (untold none)

pub taken_written : {message : List ℕ} {place next : ℕ} (rr : RecordOf (List (List ℕ)) Data) → TakesRecord message place rr next
    → IsWritten (record_of rr) (written_parts_of rr)
taken_written {message} rr taken =
    held_written (take (taken.data_place + taken.head.data_len) message) taken.data_place taken.head.rtype rr rr.rdata refl taken.held.rdata
