-- What a reader gives of a zone's text, in the words of the rules.
use Rattle.std.proofs.Common.{◌≡◌, ◌≢◌, ◌+◌, ◌++◌, ◌∙◌, ℕ, true, false, List, [], ◌∷◌, Option, Some, None, Ok, Err, Box, Global, box_value, length, refl, sym, ap, subst, append_assoc, length-append, arith}
use Rattle.std.specs.Prelude.{if◌then◌else◌, is_some, Result}
use Rattle.std.specs.List.{push}
use Rattle.dns_header.specs.Record.{RecordOf}
use Rattle.dns_rdata.specs.Data.{Data}
use Rattle.dns_rdata.specs.DataOctets.{IsSpellable}
use Rattle.dns_rdata.specs.Fields.{IsData}
use Rattle.zone_records.specs.Held.{record_of}
use Rattle.dns_entry_scanner.specs.EntryError.{is_memory}
use Rattle.dns_entry_scanner.specs.declared.entry_error.EntryError.{EntryError}
use Rattle.dns_zonefile.specs.Composed.{HandsOn, included}
use Rattle.dns_zonefile.specs.Entries.{HasEntries, IsRefusedAfter}
use Rattle.dns_zonefile.specs.Entry.{Context, Entry}
use Rattle.dns_zonefile.specs.Entry.Entry.{Include, Resource}
use Rattle.dns_zonefile.specs.Reader.{AreDirectives, Gives, GoesOver, Reader, left_of}
use Rattle.dns_zonefile.specs.ReaderSeen.{entries_met, reader_of, refused_in}
use Rattle.dns_zonefile.specs.declared.entry.ComposedEntry.{ComposedEntry}
use Rattle.dns_zonefile.specs.declared.entry.ComposedEntry.TheVariants as composed
use Rattle.dns_zonefile.specs.declared.entry.IncludedFile.{IncludedFile}
use Rattle.dns_zonefile.specs.declared.error.Error.{Error}
use Rattle.dns_zonefile.specs.declared.zonefile.Zonefile.{Zonefile}
use Rattle.dns_zonefile.proofs.Going.{goes-nowhere, goes-on}
use Rattle.dns_zonefile.proofs.GivenEntries.{refused-there}
use Rattle.zone_records.specs.Record.{Record}
use Rattle.zone_records.specs.Zone.{IsUnder, IsZone, any_class, soa_type}
use Rattle.zone.specs.ZoneText.{IsWellTyped, IsZoneFault, IsZoneText, KeepRules, MayFollow, Reaches, ReachesRecord, records_in, start_of}
use Rattle.zone.specs.declared.zone_error.ZoneError.TheVariants as zone_error
use Rattle.zone.proofs.KeptRules.{keeps_directives, keeps_record, records_behind, records_push}

-- a reader at the start of a text
abbrev pub reader_at : Context → List ℕ → Reader
reader_at start given = record { text = given; place = 0; context = start; count = 0 }

-- The reader has gone over rows of the text from the first, which are these entries.
pub record HasRead (start : Context) (given : List ℕ) (entries : List Entry) (reader : Reader) : Type 0 where
  pub goes : GoesOver (reader_at start given) entries reader

pub nothing_read : (start : Context) (given : List ℕ) → HasRead start given [] (reader_at start given)
nothing_read start given = record { goes = goes-nowhere (reader_at start given) }

pub read_on : {start : Context} {given : List ℕ} {entries more : List Entry} {reader new : Reader} → HasRead start given entries reader
    → GoesOver reader more new → HasRead start given (entries ++ more) new
read_on read goes = record { goes = goes-on read.goes goes }

pub count_read : {start : Context} {given : List ℕ} {entries : List Entry} {reader : Reader} → HasRead start given entries reader
    → reader.count ≡ length entries
count_read read = let count = read.goes.count in omega (arith, count)

-- the next entry
pub next_read : {start : Context} {given : List ℕ} {entries : List Entry} {entry : Entry} {reader new : Reader}
    → HasRead start given entries reader → Gives reader (Ok (Some entry)) new
    → (directives : List Entry) × AreDirectives directives × HasRead start given (push (entries ++ directives) entry) new
next_read {start} {given} {entries} {new = new} read (Gives.given directives {entry = found} are other goes) = (
  directives,
  are,
  subst (λ (l : List Entry). HasRead start given l new) (sym (append_assoc entries directives (found ∷ []))) (read_on read goes),
)

pub ended_behind : {start : Context} {given : List ℕ} {entries : List Entry} {reader new : Reader} → HasRead start given entries reader
    → Gives reader (Ok None) new
    → (directives : List Entry) × AreDirectives directives × HasEntries start given (entries ++ directives)
ended_behind {new = new} read (Gives.ended {directives = directives} are goes ends) =
    let all = (read_on read goes).goes in (
      directives,
      are,
      record {
        rows = all.rows;
        is_text = record { rest = left_of new; begins = all.begins; ends = ends };
        after = new.context;
        are = all.are;
      },
    )

pub refused_behind : {start : Context} {given : List ℕ} {entries : List Entry} {reader new : Reader} {error : EntryError}
    → HasRead start given entries reader → Gives reader (Err error) new → is_memory error ≡ false
    → (directives : List Entry) × AreDirectives directives × IsRefusedAfter start given (entries ++ directives)
    × (new.count ≡ length (entries ++ directives))
refused_behind read (Gives.refused {directives = directives} are goes at real) is =
    let all = read_on read goes in (directives, are, refused-there all.goes at, count_read all)
refused_behind read (Gives.out_of_memory are goes memory) is = let differ : true ≡ false = sym memory ∙ is in absurd cc

-- The reader has gone over entries of the text that keep the rules. Their records are these.
pub record HasKept (given : List ℕ) (origin : Option (List (List ℕ))) (class : ℕ) (records : List Record) (reader : Reader) : Type 0 where
  pub class_known : class ≢ any_class
  pub entries : List Entry
  pub read : HasRead (start_of origin class) given entries reader
  pub keep : KeepRules entries
  pub are : records ≡ records_in entries

-- the text ends after them
pub zone_text : {given : List ℕ} {origin : Option (List (List ℕ))} {class : ℕ} {records : List Record} {reader new : Reader}
    → HasKept given origin class records reader → Gives reader (Ok None) new → IsZone records → IsZoneText given origin class records
zone_text kept gives zone =
    let all = ended_behind kept.read gives in record {
      class_known = kept.class_known;
      entries = kept.entries ++ all.0;
      has = all.2;
      keep = keeps_directives all.0 kept.keep all.1;
      are = kept.are ∙ sym (records_behind kept.entries all.0 all.1);
      zone = zone;
    }

-- the text fails after them
pub text_fault : {given : List ℕ} {origin : Option (List (List ℕ))} {class n : ℕ} {records : List Record} {reader new : Reader}
    {error : EntryError} → HasKept given origin class records reader → Gives reader (Err error) new → is_memory error ≡ false
    → n ≡ new.count + 1 → IsZoneFault given origin class (zone_error.Text n)
text_fault kept gives is number =
    let there = refused_behind kept.read gives is in
    let count = there.3 in record {
      class_known = kept.class_known;
      before = kept.entries ++ there.0;
      refused = there.2;
      keep = keeps_directives there.0 kept.keep there.1;
      counted = omega (arith, number, count);
    }

-- The text goes on after them with this entry.
pub record Meets (given : List ℕ) (origin : Option (List (List ℕ))) (class n : ℕ) (records : List Record) (entry : Entry) (new : Reader) : Type 0 where
  pub before : List Entry
  pub reaches : Reaches given origin class n before entry
  pub are : records ≡ records_in before
  pub read : HasRead (start_of origin class) given (push before entry) new

pub meets : {given : List ℕ} {origin : Option (List (List ℕ))} {class n : ℕ} {records : List Record} {entry : Entry} {reader new : Reader}
    → HasKept given origin class records reader → Gives reader (Ok (Some entry)) new → n ≡ new.count
    → Meets given origin class n records entry new
meets {entry = entry} {new = new} kept gives number =
    let next = next_read kept.read gives in
    let before = kept.entries ++ next.0 in
    let count : new.count ≡ length (push before entry) = count_read next.2 in
    let long : length (push before entry) ≡ length before + 1 = length-append before (entry ∷ []) in record {
      before = before;
      reaches = record {
        class_known = kept.class_known;
        rows = next.2.goes.rows;
        rest = left_of new;
        after = new.context;
        begins = next.2.goes.begins;
        are = next.2.goes.are;
        keep = keeps_directives next.0 kept.keep next.1;
        counted = omega (arith, number, count, long);
      };
      are = kept.are ∙ sym (records_behind kept.entries next.0 next.1);
      read = next.2;
    }

pub include_fault : {given : List ℕ} {origin : Option (List (List ℕ))} {class n : ℕ} {records : List Record} {path : List ℕ}
    {file_origin : Option (List (List ℕ))} {new : Reader} → Meets given origin class n records (Include path file_origin) new
    → IsZoneFault given origin class (zone_error.Include n)
include_fault {path = path} {file_origin = file_origin} meets = (meets.before, path, file_origin, meets.reaches)

-- It goes on with this record.
pub record MeetsRecord (given : List ℕ) (origin : Option (List (List ℕ))) (class n : ℕ) (records : List Record) (r : Record) (new : Reader) : Type 0 where
  pub rr : RecordOf (List (List ℕ)) Data
  pub meets : Meets given origin class n records (Resource rr) new
  pub is : r ≡ record_of rr

-- and the record keeps the rules
pub kept_record : {given : List ℕ} {origin : Option (List (List ℕ))} {class n : ℕ} {records : List Record} {r : Record} {new : Reader}
    → MeetsRecord given origin class n records r new → IsWellTyped r → MayFollow records r → HasKept given origin class (push records r) new
kept_record {records = records} {r = r} is typed follows =
    let meets = is.meets in
    let both : push records r ≡ push (records_in meets.before) (record_of is.rr) = λ i. push (meets.are i) (is.is i) in record {
      class_known = meets.reaches.class_known;
      entries = push meets.before (Resource is.rr);
      read = meets.read;
      keep = keeps_record is.rr meets.reaches.keep (subst IsWellTyped is.is typed)
          (subst (λ (l : List Record). MayFollow l (record_of is.rr)) meets.are (subst (λ (s : Record). MayFollow records s) is.is follows));
      are = both ∙ sym (records_push meets.before is.rr);
    }

-- or breaks one
reaches_record : {given : List ℕ} {origin : Option (List (List ℕ))} {class n : ℕ} {records others : List Record} {r : Record} {new : Reader}
    → MeetsRecord given origin class n records r new → records ≡ others → ReachesRecord given origin class n others r
reaches_record is same = (is.meets.before, is.rr, is.meets.reaches, sym same ∙ is.meets.are, is.is)

pub untyped_fault : {given : List ℕ} {origin : Option (List (List ℕ))} {class n : ℕ} {records : List Record} {r : Record} {new : Reader}
    → MeetsRecord given origin class n records r new → (IsData r.rtype r.rdata → ⊥)
    → IsZoneFault given origin class (zone_error.Untyped n)
untyped_fault {records = records} {r = r} is lacks = (records, r, reaches_record is refl, lacks)

pub first_fault : {given : List ℕ} {origin : Option (List (List ℕ))} {class n : ℕ} {records : List Record} {r : Record} {new : Reader}
    → MeetsRecord given origin class n records r new → IsData r.rtype r.rdata → records ≡ [] → r.rtype ≢ soa_type
    → IsZoneFault given origin class (zone_error.FirstNotSoa n)
first_fault {r = r} is data_is same other = (r, reaches_record is same, data_is, other)

pub second_fault : {given : List ℕ} {origin : Option (List (List ℕ))} {class n : ℕ} {records : List Record} {r : Record} {new : Reader}
    (soa : Record) (others : List Record) → MeetsRecord given origin class n records r new → IsData r.rtype r.rdata
    → records ≡ soa ∷ others → r.rtype ≡ soa_type → IsZoneFault given origin class (zone_error.SecondSoa n)
second_fault {r = r} soa others is data_is same is_soa = (soa, others, r, reaches_record is same, data_is, is_soa)

pub out_fault : {given : List ℕ} {origin : Option (List (List ℕ))} {class n : ℕ} {records : List Record} {r : Record} {new : Reader}
    (soa : Record) (others : List Record) → MeetsRecord given origin class n records r new → IsData r.rtype r.rdata
    → records ≡ soa ∷ others → r.rtype ≢ soa_type → (IsUnder soa.owner r.owner → ⊥)
    → IsZoneFault given origin class (zone_error.OutOfZone n)
out_fault {r = r} soa others is data_is same other out = (soa, others, r, reaches_record is same, data_is, other, out)

pub unspellable_fault : {given : List ℕ} {origin : Option (List (List ℕ))} {class n : ℕ} {records : List Record} {r : Record} {new : Reader}
    → MeetsRecord given origin class n records r new → IsData r.rtype r.rdata → MayFollow records r
    → (IsSpellable r.rtype r.rdata → ⊥) → IsZoneFault given origin class (zone_error.Unspellable n)
unspellable_fault {records = records} {r = r} is data_is follows unspelled =
    (records, r, reaches_record is refl, data_is, follows, unspelled)

-- The result of a reader that appends records to octets.
abbrev pub HandsOver : Reader → List ℕ → Result (Option ComposedEntry) EntryError → Reader → List ℕ → Type 0
HandsOver reader old handed new octets =
    (found : Result (Option Entry) EntryError) × Gives reader found new × HandsOn old found handed octets

handed_include : {old octets : List ℕ} {found : Result (Option Entry) EntryError} {file : Box IncludedFile Global}
    → HandsOn old found (Ok (Some (composed.Include file))) octets → found ≡ Ok (Some (included (box_value file)))
handed_include HandsOn.include = refl

handed_error : {old octets : List ℕ} {found : Result (Option Entry) EntryError} {error : EntryError}
    → HandsOn old found (Err error) octets → found ≡ Err error
handed_error HandsOn.refused = refl

pub include_handed : {given : List ℕ} {origin : Option (List (List ℕ))} {class n : ℕ} {records : List Record} {reader new : Reader}
    {old octets : List ℕ} {file : Box IncludedFile Global} → HasKept given origin class records reader
    → HandsOver reader old (Ok (Some (composed.Include file))) new octets → n ≡ new.count
    → IsZoneFault given origin class (zone_error.Include n)
include_handed {reader = reader} {new = new} kept hands number =
    include_fault (meets kept
    (subst (λ (f : Result (Option Entry) EntryError). Gives reader f new) (handed_include hands.2) hands.1) number)

pub gives_error : {reader new : Reader} {old octets : List ℕ} {error : EntryError} → HandsOver reader old (Err error) new octets
    → Gives reader (Err error) new
gives_error {reader} {new} hands =
    subst (λ (f : Result (Option Entry) EntryError). Gives reader f new) (handed_error hands.2) hands.1

-- the number of an entry that is read, and of one that fails
pub number_given : (zonefile : Zonefile) → refused_in zonefile ≡ None → entries_met zonefile ≡ (reader_of zonefile).count
number_given zonefile unrefused =
    let nothing : zonefile.count + 0 ≡ zonefile.count = omega arith in
    ap (λ (o : Option Error). zonefile.count + (if is_some o then 1 else 0)) unrefused ∙ nothing

pub number_refused : (zonefile : Zonefile) (error : Error) → refused_in zonefile ≡ Some error
    → entries_met zonefile ≡ (reader_of zonefile).count + 1
number_refused zonefile error refused =
    ap (λ (o : Option Error). zonefile.count + (if is_some o then 1 else 0)) refused
