-- A text is a zone's, or it has a fault.
use Rattle.std.proofs.Common.{◌≡◌, ◌≢◌, ◌<◌, ℕ, zero, suc, Bool, true, false, List, [], ◌∷◌, ◌++◌, Option, length, append-nil, refl, sym, subst, arith}
use Rattle.std.specs.List.{push}
use Rattle.dns_header.specs.Record.{RecordOf}
use Rattle.dns_scan.specs.Token.{Token}
use Rattle.dns_text.specs.Rows.{BeginsWithRows, TokenRow, is_led}
use Rattle.dns_text.specs.Tokens.{Row, is_end}
use Rattle.dns_entry_scanner.proofs.Rows.{row_shorter}
use Rattle.dns_rdata.specs.Data.{Data}
use Rattle.dns_rdata.specs.Fields.{IsData}
use Rattle.zone_records.specs.Held.{record_of}
use Rattle.dns_zonefile.specs.Entries.{AreEntries, HasEntries, IsRefusedAfter, refused_number}
use Rattle.dns_zonefile.specs.Entry.{Context, Entry, IsEntry}
use Rattle.dns_zonefile.specs.Entry.Entry.{Directive, Include, Resource}
use Rattle.dns_zonefile.proofs.Going.{are-on, begins-on}
use Rattle.zone_records.specs.Record.{Record}
use Rattle.zone_records.specs.Zone.{IsBehindSoa, IsZoneFront, any_class, soa_type}
use Rattle.zone_records.proofs.Each.{all_append}
use Rattle.zone.specs.ZoneText.{IsZoneFault, IsZoneText, KeepRules, MayFollow, Reaches, ReachesRecord, records_in, start_of}
use Rattle.zone.specs.declared.zone_error.ZoneError.{ZoneError}
use Rattle.zone.specs.declared.zone_error.ZoneError.TheVariants as zone_error
use Rattle.zone.proofs.KeptRules.{keeps_directive, keeps_none, keeps_record}

-- the rows up to there are these entries
record StandsBehind (start : Context) (given : List ℕ) (before : List Entry) (after : Context) (rest : List ℕ) : Type 0 where
  pub rows : List TokenRow
  pub begins : BeginsWithRows given rows rest
  pub are : AreEntries start rows before after

abbrev row_at : List ℕ → List Token → TokenRow
row_at text tokens = record { blank_led = is_led text; tokens = tokens }

behind_bare : {start after : Context} {given rest behind : List ℕ} {before : List Entry} → StandsBehind start given before after rest
    → Row false rest [] behind → StandsBehind start given before after behind
behind_bare {start} {after} {rest = rest} {before = before} at row = record {
  rows = at.rows ++ row_at rest [] ∷ [];
  begins = begins-on at.begins (BeginsWithRows.more row BeginsWithRows.none);
  are = subst (λ (l : List Entry). AreEntries start (at.rows ++ row_at rest [] ∷ []) l after) (append-nil before)
      (are-on at.are (AreEntries.bare AreEntries.none));
}

behind_entry : {start after next : Context} {given rest behind : List ℕ} {before : List Entry} {tokens : List Token} {entry : Entry}
    → StandsBehind start given before after rest → Row false rest tokens behind → IsEntry after (row_at rest tokens) entry next
    → StandsBehind start given (push before entry) next behind
behind_entry {rest = rest} {tokens = tokens} at row is = record {
  rows = at.rows ++ row_at rest tokens ∷ [];
  begins = begins-on at.begins (BeginsWithRows.more row BeginsWithRows.none);
  are = are-on at.are (AreEntries.entry is AreEntries.none);
}

module _ (given : List ℕ) (origin : Option (List (List ℕ))) (class : ℕ) (known : class ≢ any_class)
    (no_zone : (records : List Record) → IsZoneText given origin class records → ⊥)
    (no_fault : (e : ZoneError) → e ≢ zone_error.OutOfMemory → IsZoneFault given origin class e → ⊥) where
  abbrev Stands : List Entry → Context → List ℕ → Type 0
  Stands before after rest = StandsBehind (start_of origin class) given before after rest

  -- it holds after entries with fewer octets after them
  abbrev Judges : ℕ → Type 0
  Judges fuel = (before : List Entry) (after : Context) (rest : List ℕ) → length rest < fuel → Stands before after rest → KeepRules before → ⊥

  reaches : (before : List Entry) (entry : Entry) (next : Context) (behind : List ℕ) → Stands (push before entry) next behind
      → KeepRules before → Reaches given origin class (refused_number before) before entry
  reaches before entry next behind at keep = record {
    class_known = known;
    rows = at.rows;
    rest = behind;
    after = next;
    begins = at.begins;
    are = at.are;
    keep = keep;
    counted = refl;
  }

  -- the end of the text
  at_end : (before : List Entry) (after : Context) (rest : List ℕ) → is_end rest ≡ true → Stands before after rest → KeepRules before → ⊥
  at_end before after rest ends at keep = by (records_in before) refl
    where
      has : HasEntries (start_of origin class) given before
      has = record {
        rows = at.rows;
        is_text = record { rest = rest; begins = at.begins; ends = ends };
        after = after;
        are = at.are;
      }

      by : (records : List Record) → records ≡ records_in before → ⊥
      by [] same =
          no_fault zone_error.NoSoa (λ is. cc)
          (record { class_known = known; entries = before; has = has; keep = keep; none = sym same })
      by (soa ∷ others) same = no_zone (soa ∷ others) (record {
        class_known = known;
        entries = before;
        has = has;
        keep = keep;
        are = same;
        zone = subst (λ (l : List Record). IsZoneFront l) (sym same) keep.front;
      })

  -- a record
  follows : (n : ℕ) (records : List Record) (r : Record) → ReachesRecord given origin class n records r → IsZoneFront records
      → IsData r.rtype r.rdata → (MayFollow records r → ⊥) → ⊥
  follows n [] r reached front is_data on =
      no_fault (zone_error.FirstNotSoa n) (λ is. cc) (r, reached, is_data, λ is_soa. on (is_soa, tt))
  follows n (soa ∷ others) r reached front is_data on =
      let other : r.rtype ≢ soa_type = λ is_soa. no_fault (zone_error.SecondSoa n) (λ is. cc) (soa, others, r, reached, is_data, is_soa) in
      no_fault (zone_error.OutOfZone n) (λ is. cc) (
        soa,
        others,
        r,
        reached,
        is_data,
        other,
        λ under. on
            (front.0, all_append (IsBehindSoa soa) others (r ∷ []) front.1 (record { no_soa = other; under = under }, tt)),
      )

  one_record : (before : List Entry) (rr : RecordOf (List (List ℕ)) Data) (next : Context) (behind : List ℕ)
      → Stands (push before (Resource rr)) next behind → KeepRules before → (KeepRules (push before (Resource rr)) → ⊥) → ⊥
  one_record before rr next behind at keep on =
      let r = record_of rr in
      let records = records_in before in
      let n = refused_number before in
      let reached : ReachesRecord given origin class n records r =
      (before, rr, reaches before (Resource rr) next behind at keep, refl, refl) in
      no_fault (zone_error.Untyped n) (λ is. cc) (
        records,
        r,
        reached,
        λ is_data. follows n records r reached keep.front is_data
            (λ may. no_fault (zone_error.Unspellable n) (λ is. cc)
            (records, r, reached, is_data, may, λ spellable. on (keeps_record rr keep (record { data_is = is_data; spellable = spellable }) may))),
      )

  one_entry : (fuel : ℕ) → Judges fuel → (before : List Entry) (entry : Entry) (next : Context) (behind : List ℕ) → length behind < fuel
      → Stands (push before entry) next behind → KeepRules before → ⊥
  one_entry fuel judges before (Resource rr) next behind few at keep =
      one_record before rr next behind at keep (judges (push before (Resource rr)) next behind few at)
  one_entry fuel judges before (Include path file_origin) next behind few at keep =
      no_fault (zone_error.Include (refused_number before)) (λ is. cc)
      (before, path, file_origin, reaches before (Include path file_origin) next behind at keep)
  one_entry fuel judges before Directive next behind few at keep =
      judges (push before Directive) next behind few at (keeps_directive keep)

  -- an entry that fails
  refused_there : (before : List Entry) → IsRefusedAfter (start_of origin class) given before → KeepRules before → ⊥
  refused_there before refused keep =
      no_fault (zone_error.Text (refused_number before)) (λ is. cc)
      (record { class_known = known; before = before; refused = refused; keep = keep; counted = refl })

  no_row : (fuel : ℕ) → Judges fuel → (before : List Entry) (after : Context) (rest : List ℕ) → length rest < suc fuel
      → Stands before after rest → KeepRules before → (tokens : List Token) (behind : List ℕ) → Row false rest tokens behind → ⊥
  no_row fuel judges before after rest few at keep [] behind row =
      let less = row_shorter row in judges before after behind (omega (arith, few, less)) (behind_bare at row) keep
  no_row fuel judges before after rest few at keep (token ∷ others) behind row =
      let less = row_shorter row in
      let begins = begins-on at.begins (BeginsWithRows.more row BeginsWithRows.none) in
      refused_there before (IsRefusedAfter.no_entry begins at.are (λ is. cc)
      (λ entry next is. one_entry fuel judges before entry next behind (omega (arith, few, less)) (behind_entry at row is) keep)) keep

  one_place : (fuel : ℕ) → Judges fuel → Judges (suc fuel)
  one_place fuel judges before after rest few at keep = by (is_end rest) refl
    where
      by : (b : Bool) → is_end rest ≡ b → ⊥
      by true ends = at_end before after rest ends at keep
      by false goes_on =
          refused_there before (IsRefusedAfter.broken
          (record { rest = rest; begins = at.begins; goes_on = goes_on; no_row = no_row fuel judges before after rest few at keep }) at.are) keep

  all_places : (fuel : ℕ) → Judges fuel
  all_places zero before after rest few at keep = omega (arith, few)
  all_places (suc fuel) before after rest few at keep = one_place fuel (all_places fuel) before after rest few at keep

  pub judged : ⊥
  judged =
      all_places (suc (length given)) [] (start_of origin class) given (omega arith)
      (record { rows = []; begins = BeginsWithRows.none; are = AreEntries.none }) keeps_none

pub zone_or_fault : (given : List ℕ) (origin : Option (List (List ℕ))) (class : ℕ)
    → ((records : List Record) → IsZoneText given origin class records → ⊥)
    → ((e : ZoneError) → e ≢ zone_error.OutOfMemory → IsZoneFault given origin class e → ⊥) → ⊥
zone_or_fault given origin class no_zone no_fault =
    judged given origin class (λ any. no_fault zone_error.ClassAny (λ is. cc) any) no_zone no_fault
