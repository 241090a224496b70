-- Resource records (RFC 1035 3.2.1), and the parts by which a message spells them.
use Rattle.std.specs.Prelude.{◌≡◌, ◌<◌, ◌^◌, ℕ, List, length, None}
use Rattle.dns_label.specs.Name.{IsName}
use Rattle.dns_rdata.specs.Fields.{Field, octets, IsRow, kinds_of}
use Rattle.dns_name.specs.SpelledParts.{SpellsParts}
pub use Rattle.dns_rdata.specs.Reading.{read_parts}
pub use Rattle.dns_rdata.specs.Written.{written_parts}
use Rattle.dns_name.specs.Page.{Parts}
use Rattle.dns_name.specs.Page.Parts.{End, Octets}
use Rattle.dns_header.specs.Head as head

-- a record: its owner's labels without the root's, and its data as uncompressed octets
pub record Record : Type 0 where
  pub owner : List (List ℕ)
  pub rtype : ℕ
  pub class : ℕ
  pub ttl : ℕ
  pub rdata : List ℕ

-- the ranges of a record's fields
pub record IsRecord (r : Record) : Type 0 where
  pub owner : IsName r.owner
  pub rtype : r.rtype < 2 ^ 16
  pub class : r.class < 2 ^ 16
  pub ttl : r.ttl < 2 ^ 32
  pub rdata : length r.rdata < 2 ^ 16

-- the parts of a record around those of its data
abbrev pub record_parts : Record → Parts → Parts
record_parts r data' = head.record_parts r.owner r.rtype r.class r.ttl data'

-- The parts of the record as a reader reads them. Unknown data is its octets.
pub data IsRead (r : Record) : Parts → Type 0 where
  typed : (row : List Field) → IsRow r.rtype row → r.rdata ≡ octets row → IsRead r (record_parts r (read_parts row))
  unknown : kinds_of r.rtype ≡ None → IsRead r (record_parts r (Octets r.rdata End))

-- The parts of the record as a writer writes them (RFC 3597 4): a name that may be compressed is a name, and all else
-- is octets, any other name written out. Unknown data is its octets.
pub data IsWritten (r : Record) : Parts → Type 0 where
  fields : (row : List Field) → IsRow r.rtype row → r.rdata ≡ octets row → IsWritten r (record_parts r (written_parts row))
  untold : kinds_of r.rtype ≡ None → IsWritten r (record_parts r (Octets r.rdata End))

-- the record with every name written out
abbrev pub record_octets : Record → List ℕ
record_octets r = head.record_octets r.owner r.rtype r.class r.ttl r.rdata

-- The message has the record at a place, and `next` is the place after it.
pub record ReadsRecord (message : List ℕ) (place : ℕ) (r : Record) (next : ℕ) : Type 0 where
  pub is_record : IsRecord r
  pub parts : Parts
  pub read : IsRead r parts
  pub spelled : SpellsParts message place parts next
