-- A message spells one list of records of a given length from a place on.
use Rattle.std.proofs.Common.{◌≡◌, ℕ, ◌<◌, List, [], ◌∷◌, ◌++◌, length, refl, sym, subst, arith}
use Rattle.dns_message.proofs.ReadRecords.{record_one}
use Rattle.zone_records.specs.Record.{Record}
use Rattle.dns_rdata.specs.Fields.{IsData}
use Rattle.dns_rdata.specs.Fields.IsData.{typed as in_fields, unknown as untold}
use Rattle.dns_name.specs.Page.{Parts}
use Rattle.dns_message.specs.Record.{IsRecord, IsRead, ReadsRecord}
use Rattle.dns_message.specs.Record.IsRead.{typed, unknown}
use Rattle.zone_core.specs.Transfer.{SpellsRecords}
use Rattle.zone_core.specs.Transfer.SpellsRecords.{none, one}

-- at most one record is at a place
pub read_one : {message : List ℕ} {place next next' : ℕ} (r other : Record) → ReadsRecord message place r next
    → ReadsRecord message place other next' → (r ≡ other) × (next ≡ next')
read_one r other has has' =
    record_one r other has.is_record has'.is_record has.read has'.read has.spelled has'.spelled

-- its data is lawful for its type
data_of_read : (r : Record) (parts : Parts) → IsRecord r → IsRead r parts → IsData r.rtype r.rdata
data_of_read r parts is (typed row is_row octets_are) = in_fields row is_row octets_are
data_of_read r parts is (unknown no_fields) = untold no_fields is.rdata

pub read_has_data : {message : List ℕ} {place next : ℕ} (r : Record) → ReadsRecord message place r next → IsData r.rtype r.rdata
read_has_data r has = data_of_read r has.parts has.is_record has.read

-- the first record that is spelled, and those after it
pub record FirstSpelled (message : List ℕ) (place : ℕ) (r : Record) (records : List Record) (next : ℕ) : Type 0 where
  pub end : ℕ
  pub has : ReadsRecord message place r end
  pub behind : SpellsRecords message end records next

abbrev pub OpenedSpelled : List ℕ → ℕ → List Record → ℕ → Type 0
OpenedSpelled message place [] next = place ≡ next
OpenedSpelled message place (r ∷ records) next = FirstSpelled message place r records next

pub opened_spelled : {message : List ℕ} {place next : ℕ} {records : List Record}
    → SpellsRecords message place records next → OpenedSpelled message place records next
opened_spelled none = refl
opened_spelled (one end has behind) = record { end = end; has = has; behind = behind }

-- one more record
pub spelled_push : {message : List ℕ} {place next : ℕ} {records : List Record} (r : Record) (end : ℕ)
    → SpellsRecords message place records next → ReadsRecord message next r end
    → SpellsRecords message place (records ++ r ∷ []) end
spelled_push r end none has = one end has none
spelled_push r end (one behind first rest) has = one behind first (spelled_push r end rest has)

-- lists of as many records from one place on are the same
pub spelled_one : (message : List ℕ) (records others : List Record) (place next next' : ℕ) → length records ≡ length others
    → SpellsRecords message place records next → SpellsRecords message place others next'
    → (records ≡ others) × (next ≡ next')
spelled_one message [] [] place next next' many spelled spelled' =
    let ends : place ≡ next = opened_spelled spelled in
    let ends' : place ≡ next' = opened_spelled spelled' in
    (refl, cc)
spelled_one message [] (s ∷ others) place next next' many spelled spelled' = absurd (omega arith)
spelled_one message (r ∷ records) [] place next next' many spelled spelled' = absurd (omega arith)
spelled_one message (r ∷ records) (s ∷ others) place next next' many spelled spelled' =
    let first = opened_spelled spelled in
    let first' = opened_spelled spelled' in
    let same = read_one r s first.has first'.has in
    let P : ℕ → Type 0 = λ end. SpellsRecords message end others next' in
    let rest = spelled_one message records others first.end next next' (omega arith) first.behind (subst P (sym same.1) first'.behind) in
    (cc (same.0, rest.0), rest.1)

-- The records are the others, then `r`, and then `more`. `r` is at the place after the others.
pub record SpelledPast (message : List ℕ) (others records : List Record) (place : ℕ) : Type 0 where
  pub r : Record
  pub end : ℕ
  pub more : List Record
  pub are : records ≡ others ++ r ∷ more
  pub has : ReadsRecord message place r end

-- more records from the same place on
pub spelled_past : (message : List ℕ) (others records : List Record) (start place next : ℕ) → length others < length records
    → SpellsRecords message start others place → SpellsRecords message start records next
    → SpelledPast message others records place
spelled_past message others [] start place next fewer spelled spelled' = absurd (omega arith)
spelled_past message [] (r ∷ records) start place next fewer spelled spelled' =
    let ends : start ≡ place = opened_spelled spelled in
    let first = opened_spelled spelled' in
    let P : ℕ → Type 0 = λ place. ReadsRecord message place r first.end in
    record { r = r; end = first.end; more = records; are = refl; has = subst P ends first.has }
spelled_past message (s ∷ others) (r ∷ records) start place next fewer spelled spelled' =
    let first = opened_spelled spelled in
    let first' = opened_spelled spelled' in
    let same = read_one s r first.has first'.has in
    let P : ℕ → Type 0 = λ end. SpellsRecords message end records next in
    let there = spelled_past message others records first.end place next (omega arith) first.behind (subst P (sym same.1) first'.behind) in
    record { r = there.r; end = there.end; more = there.more; are = cc (same.0, there.are); has = there.has }
