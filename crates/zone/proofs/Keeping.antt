-- What is kept of the records that are read begins with the first of them, and one record more is taken.
use Rattle.std.proofs.Common.{◌≡◌, ◌≢◌, ◌<◌, ◌++◌, ◌∙◌, ℕ, Bool, true, false, List, [], ◌∷◌, append-nil, length, refl, sym, ap, subst, arith}
use Rattle.std.specs.List.{flat_map, push}
use Rattle.dns_label.specs.Name.{wire}
use Rattle.zone_records.specs.MessageRecord.{record_octets}
use Rattle.zone_records.specs.Record.{Record}
use Rattle.zone_records.specs.Stored.{AreStored}
use Rattle.zone.specs.Kept.{AreKept, Keeps}
use Rattle.zone.specs.Reading.{BeginWith, IsFirst, apex_in, name_len}
use Rattle.zone.specs.declared.keep.Keeper.{Keeper}

stored_begins : (octets places : List ℕ) (records : List Record) → AreStored octets places records → BeginWith (apex_in records) octets
stored_begins octets places [] stored = stored.whole
stored_begins octets places (r ∷ others) stored = (r, flat_map record_octets others, stored.each.0, stored.whole, refl)

first_begins : (octets : List ℕ) (records : List Record) → IsFirst octets records → BeginWith (apex_in records) octets
first_begins octets [] first = first
first_begins octets (r ∷ others) first = (r, [], first.0, first.1 ∙ sym (append-nil (record_octets r)), refl)

kept_begins : (first_only : Bool) (octets places : List ℕ) (records : List Record) → AreKept first_only places octets records
    → BeginWith (apex_in records) octets
kept_begins true octets places records kept = first_begins octets records kept
kept_begins false octets places records kept = stored_begins octets places records kept

pub begins : {keeper : Keeper} {octets : List ℕ} {records : List Record} → Keeps keeper octets records → BeginWith (apex_in records) octets
begins {keeper} {octets} {records} keeps = kept_begins keeper.first_only octets keeper.places.items records keeps.kept

record_long : (r : Record) (rest : List ℕ) → 0 < length (record_octets r ++ rest)
record_long r rest = owner_long r.owner
  where
    owner_long : (owner : List (List ℕ)) → 0 < length (record_octets (record r { owner = owner }) ++ rest)
    owner_long [] = omega arith
    owner_long (label ∷ owner) = omega arith

-- the apex stays that of the first record
pub apex_more : (records : List Record) (before : List ℕ) (r : Record) {old new place owner_len : ℕ} → BeginWith (apex_in records) before
    → old ≡ name_len (apex_in records) → place ≡ length before → owner_len ≡ length (wire r.owner) → (place ≡ 0 → new ≡ owner_len)
    → (place ≢ 0 → new ≡ old) → new ≡ name_len (apex_in (push records r))
apex_more [] before r begin held at long first later = first (at ∙ ap (length {A = ℕ}) begin) ∙ long
apex_more (soa ∷ others) before r {place = place} begin held at long first later =
    let whole = ap (length {A = ℕ}) begin.3 in
    let some : place ≢ 0 = λ none. absurd (omega (arith, none, at, whole, record_long begin.0 begin.1)) in
    later some ∙ held

-- a keeper of all records
pub all_kept : {keeper : Keeper} {octets : List ℕ} {records : List Record} → keeper.first_only ≡ false → Keeps keeper octets records
    → AreStored octets keeper.places.items records
all_kept {keeper} {octets} {records} all keeps = subst (λ b. AreKept b keeper.places.items octets records) all keeps.kept

-- a keeper of the first alone
pub first_kept : {keeper : Keeper} {octets : List ℕ} {records : List Record} → keeper.first_only ≡ true → Keeps keeper octets records
    → IsFirst octets records
first_kept {keeper} {octets} {records} first keeps = subst (λ b. AreKept b keeper.places.items octets records) first keeps.kept

pub first_again : {first_only : Bool} (octets places : List ℕ) (records : List Record) → first_only ≡ true → IsFirst octets records
    → AreKept first_only places octets records
first_again octets places records first is = subst (λ b. AreKept b places octets records) (sym first) is

pub all_again : {first_only : Bool} (octets places : List ℕ) (records : List Record) → first_only ≡ false → AreStored octets places records
    → AreKept first_only places octets records
all_again octets places records all are = subst (λ b. AreKept b places octets records) (sym all) are
