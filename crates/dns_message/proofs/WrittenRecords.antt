-- Records whose names are written out are read.
use Rattle.std.proofs.Common.{◌≡◌, ℕ, ◌+◌, ◌≤◌, List, [], ◌∷◌, ◌++◌, length, drop, refl, sym, ap, ◌∙◌, subst, append_assoc, append-nil}
use Rattle.std.specs.Int.{to_be_bytes, w16}
use Rattle.std.specs.List.{AllByRecursion}
use Rattle.dns_label.specs.Name.{wire}
use Rattle.dns_rdata.specs.Fields.{Field, IsField, IsData, field_octets, octets}
use Rattle.dns_rdata.specs.Fields.Field.{number8, number16, number32, ipv4, ipv6, compressible, uncompressed, string, strings, tag, rest_text, rest16, rest64}
use Rattle.dns_rdata.specs.Fields.IsData.{typed as typed_data, unknown as unknown_data}
use Rattle.dns_name.specs.SpelledParts.{SpellsParts}
use Rattle.dns_message.proofs.Plain.{plain}
use Rattle.dns_name.specs.Page.{Parts}
use Rattle.dns_name.specs.Page.Parts.{End, Octets}
use Rattle.dns_header.specs.Head.{fixed_octets}
use Rattle.dns_message.specs.Record.{Record, IsRecord, IsRead, ReadsRecord, read_parts, record_parts, record_octets}
use Rattle.dns_message.specs.Record.IsRead.{typed, unknown}
use Rattle.dns_message.proofs.Written.{AreWritable, spells-written}

-- the first field of a row as a part
plain_first : (field : Field) (row : List Field) → plain (read_parts (field ∷ row)) ≡ field_octets field ++ plain (read_parts row)
plain_first (number8 n) row = refl
plain_first (number16 n) row = refl
plain_first (number32 n) row = refl
plain_first (ipv4 text) row = refl
plain_first (ipv6 text) row = refl
plain_first (compressible name) row = refl
plain_first (uncompressed name) row = refl
plain_first (string text) row = refl
plain_first (strings each) row = refl
plain_first (tag text) row = refl
plain_first (rest_text text) row = refl
plain_first (rest16 text) row = refl
plain_first (rest64 text) row = refl

writable_first : (field : Field) (row : List Field) → IsField field → AreWritable (read_parts row) → AreWritable (read_parts (field ∷ row))
writable_first (number8 n) row is can = can
writable_first (number16 n) row is can = can
writable_first (number32 n) row is can = can
writable_first (ipv4 text) row is can = can
writable_first (ipv6 text) row is can = can
writable_first (compressible name) row is can = (is, can)
writable_first (uncompressed name) row is can = (is, can)
writable_first (string text) row is can = can
writable_first (strings each) row is can = can
writable_first (tag text) row is can = can
writable_first (rest_text text) row is can = can
writable_first (rest16 text) row is can = can
writable_first (rest64 text) row is can = can

-- a row as a reader reads it, with its names written out
pub plain-read : (row : List Field) → plain (read_parts row) ≡ octets row
plain-read [] = refl
plain-read (field ∷ row) = plain_first field row ∙ ap (λ l. field_octets field ++ l) (plain-read row)

pub writable-read : (row : List Field) → AllByRecursion IsField row → AreWritable (read_parts row)
writable-read [] each = tt
writable-read (field ∷ row) each = writable_first field row each.0 (writable-read row each.1)

regrouped : (a b c d : List ℕ) → a ++ (b ++ (c ++ d ++ [])) ≡ a ++ b ++ (c ++ d)
regrouped a b c d = simp (append_assoc, append-nil)

-- the parts of a record around those of its data are the record's octets
pub plain-record : (r : Record) (parts : Parts) → plain parts ≡ r.rdata → plain (record_parts r parts) ≡ record_octets r
plain-record r parts is =
    rw is (regrouped (wire r.owner) (fixed_octets r.rtype r.class r.ttl) (to_be_bytes w16 (length r.rdata)) r.rdata)

pub writable-record : (r : Record) (parts : Parts) → plain parts ≡ r.rdata → IsRecord r → AreWritable parts → AreWritable (record_parts r parts)
writable-record r parts is good can = (good.owner, (rw is good.rdata, can, tt))

record_spelled : (message : List ℕ) (place : ℕ) (r : Record) (parts : Parts) (rest : List ℕ) → drop place message ≡ record_octets r ++ rest
    → place ≤ length message → IsRecord r → plain parts ≡ r.rdata → AreWritable parts → IsRead r (record_parts r parts)
    → ReadsRecord message place r (place + length (record_octets r))
record_spelled message place r parts rest at within good is can read =
    let whole : plain (record_parts r parts) ≡ record_octets r = plain-record r parts is in
    let here : drop place message ≡ plain (record_parts r parts) ++ rest = at ∙ ap (λ l. l ++ rest) (sym whole) in
    let goes = spells-written message place (record_parts r parts) rest here within (writable-record r parts is good can) in
    let P : List ℕ → Type 0 = λ l. SpellsParts message place (record_parts r parts) (place + length l) in
    record { is_record = good; parts = record_parts r parts; read = read; spelled = subst P whole goes }

-- A record that is written out is read.
pub record-written : (message : List ℕ) (place : ℕ) (r : Record) (rest : List ℕ) → drop place message ≡ record_octets r ++ rest
    → place ≤ length message → IsRecord r → IsData r.rtype r.rdata → ReadsRecord message place r (place + length (record_octets r))
record-written message place r rest at within good (typed_data row is_row is) =
    record_spelled message place r (read_parts row) rest at within good (plain-read row ∙ sym is) (writable-read row is_row.each)
    (typed row is_row is)
record-written message place r rest at within good (unknown_data none short) =
    record_spelled message place r (Octets r.rdata End) rest at within good (append-nil r.rdata) tt (unknown none)
