-- A record that is spelled as it is written is read.
use Rattle.std.proofs.Common.{◌≡◌, ℕ, ◌+◌, ◌≤◌, List, [], ◌∷◌, ◌++◌, length, drop, ap, arith, length-append, length-drop}
use Rattle.std.specs.Int.{to_be_bytes, w16}
use Rattle.std.specs.List.{AllByRecursion}
use Rattle.dns_label.specs.Name.{wire}
use Rattle.dns_name.specs.SpelledParts.{SpellsParts}
use Rattle.dns_name.specs.SpelledParts.SpellsParts.{octets, named, counted}
use Rattle.dns_name.specs.Page.{Parts}
use Rattle.dns_name.specs.Page.Parts.{End, Octets, Named, Counted}
use Rattle.dns_rdata.specs.Fields.{Field, IsData, IsField}
use Rattle.dns_rdata.specs.Fields.Field.{number8, number16, number32, ipv4, ipv6, compressible, uncompressed, string, strings, tag, rest_text, rest16, rest64}
use Rattle.dns_header.specs.Head.{fixed_octets}
use Rattle.dns_header.proofs.WrittenQuestions.{reads-written}
use Rattle.dns_message.specs.Record.{Record, IsRecord, IsWritten, ReadsRecord, read_parts, written_parts, record_octets}
use Rattle.dns_message.specs.Record.IsRead.{typed, unknown}
use Rattle.dns_message.specs.Record.IsWritten.{fields, untold}
use Rattle.dns_message.proofs.WrittenRecords.{record-written}

-- other parts after the same octets
behind_octets : {message : List ℕ} {place next : ℕ} {text : List ℕ} {parts other : Parts}
    → ((from : ℕ) → SpellsParts message from parts next → SpellsParts message from other next)
    → SpellsParts message place (Octets text parts) next → SpellsParts message place (Octets text other) next
behind_octets onward (octets rest at on) = octets rest at (onward _ on)

behind_name : {message : List ℕ} {place next : ℕ} {name : List (List ℕ)} {parts other : Parts}
    → ((from : ℕ) → SpellsParts message from parts next → SpellsParts message from other next)
    → SpellsParts message place (Named name parts) next → SpellsParts message place (Named name other) next
behind_name onward (named behind reads on) = named behind reads (onward _ on)

-- a name that is written out is read as a name too
name_in_full : {message : List ℕ} {place next : ℕ} {parts other : Parts} (name : List (List ℕ)) → IsField (uncompressed name)
    → ((from : ℕ) → SpellsParts message from parts next → SpellsParts message from other next)
    → SpellsParts message place (Octets (wire name) parts) next → SpellsParts message place (Named name other) next
name_in_full {message} {place} name is onward (octets rest at on) =
    named (place + length (wire name)) (reads-written message place name rest at is) (onward _ on)

row_read : {message : List ℕ} {place next : ℕ} (row : List Field) → AllByRecursion IsField row
    → SpellsParts message place (written_parts row) next → SpellsParts message place (read_parts row) next
row_read [] each spelled = spelled
row_read (compressible name ∷ row) each spelled = behind_name (λ from. row_read row each.1) spelled
row_read (uncompressed name ∷ row) each spelled = name_in_full name each.0 (λ from. row_read row each.1) spelled
row_read (number8 n ∷ row) each spelled = behind_octets (λ from. row_read row each.1) spelled
row_read (number16 n ∷ row) each spelled = behind_octets (λ from. row_read row each.1) spelled
row_read (number32 n ∷ row) each spelled = behind_octets (λ from. row_read row each.1) spelled
row_read (ipv4 text ∷ row) each spelled = behind_octets (λ from. row_read row each.1) spelled
row_read (ipv6 text ∷ row) each spelled = behind_octets (λ from. row_read row each.1) spelled
row_read (string text ∷ row) each spelled = behind_octets (λ from. row_read row each.1) spelled
row_read (strings texts ∷ row) each spelled = behind_octets (λ from. row_read row each.1) spelled
row_read (tag text ∷ row) each spelled = behind_octets (λ from. row_read row each.1) spelled
row_read (rest_text text ∷ row) each spelled = behind_octets (λ from. row_read row each.1) spelled
row_read (rest16 text ∷ row) each spelled = behind_octets (λ from. row_read row each.1) spelled
row_read (rest64 text ∷ row) each spelled = behind_octets (λ from. row_read row each.1) spelled

-- other parts of the data
other_data : {message : List ℕ} {place next : ℕ} {owner : List (List ℕ)} {text : List ℕ} {inner other : Parts}
    → ((counted : List ℕ) (from end : ℕ) → SpellsParts counted from inner end → SpellsParts counted from other end)
    → SpellsParts message place (Named owner (Octets text (Counted inner End))) next
    → SpellsParts message place (Named owner (Octets text (Counted other End))) next
other_data onward (named behind reads (octets rest at (counted count rest' at' small within held on))) =
    named behind reads (octets rest at (counted count rest' at' small within (onward _ _ _ held) on))

pub as_written_read : {message : List ℕ} {place next : ℕ} {parts : Parts} (r : Record) → IsRecord r → IsWritten r parts
    → SpellsParts message place parts next → ReadsRecord message place r next
as_written_read r good (fields row is_row is) spelled = record {
  is_record = good;
  parts = _;
  read = typed row is_row is;
  spelled = other_data (λ counted from end. row_read row is_row.each) spelled;
}
as_written_read r good (untold none) spelled = record { is_record = good; parts = _; read = unknown none; spelled = spelled }

-- a name takes at least one octet, and a record at least eleven
pub least_wire : (name : List (List ℕ)) → 1 ≤ length (wire name)
least_wire [] = omega arith
least_wire (label ∷ name) = omega arith

four_lengths : (a b c d : List ℕ) → length (a ++ b ++ (c ++ d)) ≡ length a + length b + (length c + length d)
four_lengths a b c d = simp length-append

pub least_record : (r : Record) → 11 ≤ length (record_octets r)
least_record r =
    omega (
      arith,
      least_wire r.owner,
      four_lengths (wire r.owner) (fixed_octets r.rtype r.class r.ttl) (to_be_bytes w16 (length r.rdata)) r.rdata,
    )

-- what takes some octets is within the message
pub place_within : (message : List ℕ) (place : ℕ) (front rest : List ℕ) → drop place message ≡ front ++ rest → 1 ≤ length front
    → place ≤ length message
place_within message place front rest at some =
    omega (arith, length-drop place message, ap (length {A = ℕ}) at, length-append front rest)

-- a record that is written out, at a place
pub plain_read : {message : List ℕ} {place : ℕ} (r : Record) (rest : List ℕ) → IsRecord r → IsData r.rtype r.rdata
    → drop place message ≡ record_octets r ++ rest → ReadsRecord message place r (place + length (record_octets r))
plain_read {message} {place} r rest is_record data_is at =
    let within = place_within message place (record_octets r) rest at (omega (arith, least_record r)) in
    record-written message place r rest at within is_record data_is
