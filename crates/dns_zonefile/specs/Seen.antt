-- The views of rows, statements and entries.
use Rattle.std.specs.Prelude.{ℕ, Bool, List, Option, Some, None, option_map, string_bytes}
use Rattle.dns_scan.specs.Token.{Token}
use Rattle.dns_text.specs.Rows.{TokenRow}
use Rattle.dns_header.specs.Record.{RecordOf}
use Rattle.dns_rdata.specs.Data.{Data}
use Rattle.dns_rdata.specs.ZoneData.{data_of}
use Rattle.dns_rdata.specs.declared.zone_record_data.ZoneRecordData.{ZoneRecordData}
use Rattle.dns_zonefile.specs.Entry.{Context, Entry}
use Rattle.dns_zonefile.specs.Entry.Entry.{Directive, Include, Resource}
use Rattle.dns_zonefile.specs.Statement.{Stated, Statement}
use Rattle.dns_zonefile.specs.Statement.Statement.{SetOrigin, SetTtl, NameFile, StateRecord}
use Rattle.dns_zonefile.specs.declared.context.Context as kept
use Rattle.dns_zonefile.specs.declared.entry.Entry as found
use Rattle.dns_zonefile.specs.declared.entry.Entry.TheVariants as entries
use Rattle.dns_zonefile.specs.declared.statement.Statement as code
use Rattle.dns_zonefile.specs.declared.statement.Statement.TheVariants as made
use Rattle.dns_zonefile.specs.declared.statement.Stated as stated

-- a row of tokens, which begins with white space or not
abbrev pub row_of : Bool → List Token → TokenRow
row_of blank_led tokens = record { blank_led = blank_led; tokens = tokens }

-- a record as a row states it, with names by what they spell
abbrev pub stated_of : {Octs N : Type 0} → (N → List (List ℕ)) → stated.Stated Octs N → Stated
stated_of name found = record {
  owner = option_map name found.owner;
  ttl = found.ttl;
  class = found.class;
  rdata = data_of found.rdata;
}

-- what a row says, with names by what they spell
abbrev pub statement_of : {Octs N : Type 0} → (N → List (List ℕ)) → code.Statement Octs N → Statement
statement_of name (made.SetOrigin origin) = SetOrigin (name origin)
statement_of name (made.SetTtl seconds) = SetTtl seconds
statement_of name (made.NameFile path origin) = NameFile (string_bytes path) (option_map name origin)
statement_of name (made.StateRecord found) = StateRecord (stated_of name found)

-- what the rows so far have set
abbrev pub context_of : kept.Context → Context
context_of context = record {
  origin = context.origin;
  owner = context.owner;
  default_ttl = context.default_ttl;
  last_ttl = context.last_ttl;
  class = context.class;
}

-- a record, with names by what they spell
abbrev pub record_of : {Octs N : Type 0} → (N → List (List ℕ)) → RecordOf N (ZoneRecordData Octs N) → RecordOf (List (List ℕ)) Data
record_of name rr = record { owner = name rr.owner; class = rr.class; ttl = rr.ttl; rdata = data_of rr.rdata }

-- an entry, with names by what they spell
abbrev pub entry_of : {N : Type 0} → (N → List (List ℕ)) → Option (found.Entry N) → Entry
entry_of name None = Directive
entry_of name (Some (entries.Record rr)) = Resource (record_of name rr)
entry_of name (Some (entries.Include path origin)) = Include (string_bytes path) (option_map name origin)
