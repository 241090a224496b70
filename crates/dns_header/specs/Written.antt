-- How a record is written after other octets.
use Rattle.std.specs.Prelude.{ℕ, List}
use Rattle.dns_name.specs.Spelling.{Spelling}
use Rattle.dns_name.specs.Page.{Page, Parts, write}
use Rattle.dns_name.specs.Page.Parts.{End, Octets, Named}
use Rattle.dns_name.specs.RecordData.{counted_length}
use Rattle.dns_header.specs.Head.{fixed_octets, record_parts, canonical_record}
use Rattle.dns_header.specs.Record.{RecordOf}

-- a record with the parts of its data
pub record Written : Type 0 where
  pub owner : List (List ℕ)
  pub rtype : ℕ
  pub class : ℕ
  pub ttl : ℕ
  pub rdata : Parts

abbrev pub parts_of : Written → Parts
parts_of w = record_parts w.owner w.rtype w.class w.ttl w.rdata

-- how many octets the data has if the record is written on this page
abbrev pub data_length : Spelling → Page → Written → ℕ
data_length s page w =
    counted_length s (write s page (Named w.owner (Octets (fixed_octets w.rtype w.class w.ttl) End))) w.rdata

-- how a record is written, given its owner's labels, and the type and parts of its data
abbrev pub written_of : {Owner Data : Type 0} → (Owner → List (List ℕ)) → (Data → ℕ) → (Data → Parts) → RecordOf Owner Data → Written
written_of labels rtype parts rr = record {
  owner = labels rr.owner;
  rtype = rtype rr.rdata;
  class = rr.class;
  ttl = rr.ttl;
  rdata = parts rr.rdata;
}

-- the same in canonical form
abbrev pub canonical_of : {Owner Data : Type 0} → (Owner → List (List ℕ)) → (Data → ℕ) → (Data → List ℕ) → RecordOf Owner Data → List ℕ
canonical_of labels rtype octets rr = canonical_record (labels rr.owner) (rtype rr.rdata) rr.class rr.ttl (octets rr.rdata)
