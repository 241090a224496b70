-- What is sent for a zone and a query if names are written by a spelling, with pointers (RFC 5936 2.2, RFC 1035 4.1.4).
use Rattle.std.specs.Prelude.{◌≡◌, Bool, true, false, ℕ, List, map}
use Rattle.std.specs.List.{AllByRecursion, AllZip}
use Rattle.dns_label.specs.Name.{low}
use Rattle.dns_name.specs.Spelling.{Spelling}
use Rattle.dns_name.specs.Page.{Parts}
use Rattle.dns_rdata.specs.Fields.{Field, octets, IsRow}
use Rattle.dns_rdata.specs.Fields.Field.{compressible}
use Rattle.dns_message.specs.Record.{IsWritten}
use Rattle.dns_compression_laws.specs.Cost.{written}
use Rattle.dns_compression_laws.specs.Groups.{group_parts}
use Rattle.zone_records.specs.Record.{Record}
use Rattle.zone_core.specs.Query.{AxfrQuery}
use Rattle.zone_core.specs.Frames.{frames}
use Rattle.zone_core.specs.Cutting.{IsFullCut, IsBlocked}
use Rattle.zone_send.specs.Sent.{with_soa_again}
use Rattle.zone_send.specs.Spelled.{answer_head, spelled_size}

-- the message that carries a group of records, given the parts of each
abbrev pub spelled_message : Spelling → AxfrQuery → (Record → Parts) → List Record → List ℕ
spelled_message s query item group = written s (group_parts (answer_head query) item group)

-- The stream is the frames of the full cut, in messages of at most `max` octets, each record by the parts that a writer
-- gives.
pub record IsSpelledSent (s : Spelling) (records : List Record) (query : AxfrQuery) (max : ℕ) (stream : List ℕ) : Type 0 where
  pub item : Record → Parts
  pub each : AllByRecursion (λ r. IsWritten r (item r)) records
  pub groups : List (List Record)
  pub cut : IsFullCut (spelled_size s query item) max (with_soa_again records) groups
  pub framed : stream ≡ frames (map (spelled_message s query item) groups)

-- The n-th of the records and the SOA again, counted from 1, has room in no message.
pub record IsSpelledBlocked (s : Spelling) (records : List Record) (query : AxfrQuery) (max n : ℕ) : Type 0 where
  pub item : Record → Parts
  pub each : AllByRecursion (λ r. IsWritten r (item r)) records
  pub blocked : IsBlocked (spelled_size s query item) max (with_soa_again records) n

-- fields that are equal, compressible names up to ASCII case
abbrev pub IsNearField : Field → Field → Type 0
IsNearField (compressible name) (compressible other) = low name ≡ low other
IsNearField field other = field ≡ other

-- data that is equal, its compressible names up to ASCII case
pub data IsNearData (rtype : ℕ) (data' other : List ℕ) : Type 0 where
  same : data' ≡ other → IsNearData rtype data' other
  fields : (row others : List Field) → IsRow rtype row → IsRow rtype others → data' ≡ octets row → other ≡ octets others
      → AllZip IsNearField row others → IsNearData rtype data' other

-- records that are equal, their owners and compressible names up to ASCII case
pub record IsNear (r other : Record) : Type 0 where
  pub owner : low r.owner ≡ low other.owner
  pub rtype : r.rtype ≡ other.rtype
  pub class : r.class ≡ other.class
  pub ttl : r.ttl ≡ other.ttl
  pub rdata : IsNearData r.rtype r.rdata other.rdata

-- what a reader gets from a record that is written by a spelling: the same record, up to ASCII case if the spelling
-- folds it
abbrev pub IsTakenAs : Bool → Record → Record → Type 0
IsTakenAs true r other = IsNear r other
IsTakenAs false r other = r ≡ other
