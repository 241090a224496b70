-- Each fault of a zone's text, where what is refused is passed over (RFC 1035 5).
use Rattle.std.specs.Prelude.{◌≡◌, ◌≢◌, ◌+◌, ◌==◌, ℕ, suc, true, if◌then◌else◌, List, [], ◌∷◌, Option, Some, None, Result, Ok, Err, drop, count_by}
use Rattle.dns_text.specs.Rows.{BeginsWithRows, TokenRow}
use Rattle.dns_header.specs.Record.{RecordOf}
use Rattle.dns_rdata.specs.Data.{Data}
use Rattle.dns_message.specs.Held.{record_of}
use Rattle.dns_entry_scanner.specs.declared.entry_error.EntryError.{EntryError}
use Rattle.dns_zonefile.specs.Entry.{Entry}
use Rattle.dns_zonefile.specs.Entry.Entry.{Include, Resource}
use Rattle.dns_zonefile.specs.PassedOver.{PassesOver}
use Rattle.dns_zonefile.specs.Reader.{Gives, IsRefusedAt, Reader, left_of}
use Rattle.dns_entry_scanner.specs.Lines.{line_at}
use Rattle.zone_records.specs.Record.{Record}
use Rattle.zone_records.specs.Zone.{soa_type}
use Rattle.zone.specs.Reading.{BreaksRule, MayStandUnder, reader_at}
use Rattle.zone.specs.ZoneText.{IsWellTyped, IsZoneText}
use Rattle.zone.specs.declared.zone_error.ZoneError.{ZoneError}
use Rattle.zone.specs.declared.zone_error.ZoneError.TheVariants as zone_error
use Rattle.zone_explain.specs.EntryRow.{number_of}
use Rattle.zone_explain.specs.Explained.{IsFound, behind_blanks, has_tokens}
use Rattle.zone_explain.specs.declared.explain.Finding.{Finding}

-- what the entries before have shown of the zone: nothing; that its front is missing or does not read; or its apex
pub data Front : Type 0 where
  unseen : Front
  missing : Front
  under : List (List ℕ) → Front

-- The apex that a record is judged under. Where the front is missing, only an SOA is: any other record is judged under
-- its own owner.
abbrev pub apex_for : Front → Record → Option (List (List ℕ))
apex_for Front.unseen r = None
apex_for Front.missing r = if r.rtype == soa_type then None else Some r.owner
apex_for (Front.under apex) r = Some apex

-- what a record shows, also one that breaks a rule: the first SOA's owner is the apex
abbrev pub front_after : Front → Record → Front
front_after Front.unseen r = if r.rtype == soa_type then Front.under r.owner else Front.missing
front_after Front.missing r = if r.rtype == soa_type then Front.under r.owner else Front.missing
front_after (Front.under apex) r = Front.under apex

-- what an entry that does not read shows: it may have been the front
abbrev pub front_refused : Front → Front
front_refused Front.unseen = Front.missing
front_refused Front.missing = Front.missing
front_refused (Front.under apex) = Front.under apex

-- The last of the entries that the reader went over begins at the place, behind the white space that its row begins with.
pub record IsLastAt (old new : Reader) (place : ℕ) : Type 0 where
  pub rows : List TokenRow
  pub row : TokenRow
  pub left : List ℕ
  pub rest : List ℕ
  pub begins : BeginsWithRows (left_of old) rows left
  pub counted : new.count ≡ old.count + suc (count_by has_tokens rows)
  pub entry : BeginsWithRows left (row ∷ []) rest
  pub some : has_tokens row ≡ true
  pub place_is : drop place old.text ≡ behind_blanks left

-- a finding of this fault, with its line
abbrev pub Finds : List ℕ → ZoneError → Finding → Type 0
Finds text fault finding = (finding.fault ≡ fault) × (finding.line ≡ line_at text finding.located.start)

-- These are the faults from the reader on: of each entry that does not read, or that breaks a rule, with what the entries
-- before it have shown of the zone.
pub data AreFaults : Reader → Front → List Finding → Type 0 where
  ended : {reader new : Reader} {front : Front} → Gives reader (Ok None) new → AreFaults reader front []
  keeps : {reader new : Reader} {front : Front} {rr : RecordOf (List (List ℕ)) Data} {findings : List Finding}
      → Gives reader (Ok (Some (Resource rr))) new → IsWellTyped (record_of rr) → MayStandUnder (apex_for front (record_of rr)) (record_of rr)
      → AreFaults new (front_after front (record_of rr)) findings → AreFaults reader front findings
  breaks : {reader new : Reader} {front : Front} {rr : RecordOf (List (List ℕ)) Data} {fault : ZoneError} {finding : Finding}
      {findings : List Finding} → Gives reader (Ok (Some (Resource rr))) new
      → BreaksRule new.count (apex_for front (record_of rr)) (record_of rr) fault → Finds reader.text fault finding
      → IsLastAt reader new finding.located.start → AreFaults new (front_after front (record_of rr)) findings
      → AreFaults reader front (finding ∷ findings)
  includes : {reader new : Reader} {front : Front} {path : List ℕ} {origin : Option (List (List ℕ))} {finding : Finding}
      {findings : List Finding} → Gives reader (Ok (Some (Include path origin))) new
      → Finds reader.text (zone_error.Include new.count) finding → IsLastAt reader new finding.located.start
      → AreFaults new front findings → AreFaults reader front (finding ∷ findings)
  refused : {reader at new : Reader} {front : Front} {error : EntryError} {finding : Finding} {findings : List Finding}
      → Gives reader (Err error) at → IsRefusedAt at → PassesOver at new → Finds reader.text (zone_error.Text new.count) finding
      → AreFaults new (front_refused front) findings → AreFaults reader front (finding ∷ findings)

-- Nothing is found in a zone's text; a rule that no entry breaks is alone; or the faults are those of each entry.
pub data AreAllFaults (text : List ℕ) (origin : Option (List (List ℕ))) (class : ℕ) : List Finding → Type 0 where
  none : {records : List Record} → IsZoneText text origin class records → AreAllFaults text origin class []
  whole : {finding : Finding} → IsFound text origin class finding → number_of finding.fault ≡ None
      → AreAllFaults text origin class (finding ∷ [])
  each : {first : Finding} {findings : List Finding} → IsFound text origin class first
      → AreFaults (reader_at text origin class) Front.unseen findings → findings ≢ [] → AreAllFaults text origin class findings
