-- The result of a call that appends records to octets.
use Rattle.std.specs.Prelude.{◌≡◌, ◌<◌, ◌^◌, ℕ, List, ◌++◌, length, Option, Some, None, Result, Ok, Err, string_bytes, Box, box_value}
use Rattle.std.specs.Global.{Global}
use Rattle.dns_label.specs.Name.{IsName}
use Rattle.dns_header.specs.Head.{record_octets}
use Rattle.dns_header.specs.Record.{RecordOf}
use Rattle.dns_rdata.specs.Data.{Data, is_unknown, number_of}
use Rattle.dns_rdata.specs.DataOctets.{data_octets}
use Rattle.dns_entry_scanner.specs.declared.entry_error.EntryError.{EntryError}
use Rattle.dns_zonefile.specs.Entry.{Entry}
use Rattle.dns_zonefile.specs.Entry.Entry.{Include, Resource}
use Rattle.dns_zonefile.specs.Error.{reason_of}
use Rattle.dns_zonefile.specs.declared.entry.ComposedEntry.{ComposedEntry}
use Rattle.dns_zonefile.specs.declared.entry.ComposedEntry.TheVariants as composed
use Rattle.dns_zonefile.specs.declared.entry.IncludedFile.{IncludedFile}
use Rattle.dns_zonefile.specs.declared.error.Error.{Error}

-- the octets of a record, every name in full (RFC 1035 3.2.1)
abbrev pub composed_octets : RecordOf (List (List ℕ)) Data → List ℕ
composed_octets rr = record_octets rr.owner (number_of rr.rdata) rr.class rr.ttl (data_octets rr.rdata)

-- The parts of a record fit in octets: its owner is a name, and each number and the length of its data fit (RFC 1035
-- 3.2.1).
pub record IsHeld (rr : RecordOf (List (List ℕ)) Data) : Type 0 where
  pub owner : IsName rr.owner
  pub rtype : number_of rr.rdata < 2 ^ 16
  pub class : rr.class < 2 ^ 16
  pub ttl : rr.ttl < 2 ^ 32
  pub rdata : length (data_octets rr.rdata) < 2 ^ 16

-- an include of the file
abbrev pub included : IncludedFile → Entry
included file = Include (string_bytes file.path) file.origin

-- A result in the form of octets, by those before and after it: the octets of a record, whose parts fit, follow those
-- before. Nothing else changes the octets.
pub data HandsOn (old : List ℕ) : Result (Option Entry) EntryError → Result (Option ComposedEntry) EntryError → List ℕ → Type 0 where
  resource : {rr : RecordOf (List (List ℕ)) Data} {new : List ℕ} → IsHeld rr → new ≡ old ++ composed_octets rr
      → HandsOn old (Ok (Some (Resource rr))) (Ok (Some (composed.Record (is_unknown rr.rdata)))) new
  include : {file : Box IncludedFile Global} → HandsOn old (Ok (Some (included (box_value file)))) (Ok (Some (composed.Include file))) old
  ended : HandsOn old (Ok None) (Ok None) old
  refused : {error : EntryError} → HandsOn old (Err error) (Err error) old

-- a result, with only the reason of its error
abbrev pub with_reason : {T : Type 0} → Result T Error → Result T EntryError
with_reason (Ok value) = Ok value
with_reason (Err error) = Err (reason_of error)
