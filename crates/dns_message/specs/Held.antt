-- A record as the code has it, and as a transfer has it.
use Rattle.std.specs.Prelude.{ℕ, List}
use Rattle.dns_name.specs.Page.{Parts}
use Rattle.dns_rdata.specs.Data as data_specs
use Rattle.dns_rdata.specs.Data.{Data, number_of}
use Rattle.dns_rdata.specs.DataOctets.{data_octets}
use Rattle.dns_header.specs.Head.{Head, ReadsWhole}
use Rattle.dns_header.specs.Record.{RecordOf, ReadsData}
use Rattle.dns_header.specs.Written as written
use Rattle.dns_message.specs.Record.{Record}

-- the record of the transfer; its type is that of the data
abbrev pub record_of : RecordOf (List (List ℕ)) Data → Record
record_of rr = record {
  owner = rr.owner;
  rtype = number_of rr.rdata;
  class = rr.class;
  ttl = rr.ttl;
  rdata = data_octets rr.rdata;
}

-- The code parses this at the place (RFC 1035 3.2.1, 4.1.3): the record header has the owner, type, class and TTL, and
-- the data of the type follows, up to `next`: a row of fields, or unknown data if the type has no fields.
pub record TakesRecord (message : List ℕ) (place : ℕ) (rr : RecordOf (List (List ℕ)) Data) (next : ℕ) : Type 0 where
  pub head : Head (List (List ℕ))
  pub data_place : ℕ
  pub whole : ReadsWhole message place head data_place next
  pub held : ReadsData data_specs.ReadsData message data_place head rr

-- the parts with which the code writes a record
abbrev pub written_parts_of : RecordOf (List (List ℕ)) Data → Parts
written_parts_of rr = written.parts_of (written.written_of (λ labels. labels) number_of data_specs.parts_of rr)
