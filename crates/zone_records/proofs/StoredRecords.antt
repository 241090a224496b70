-- Records in wire format: what is read from them is what was written.
use Rattle.std.proofs.Common.{◌≡◌, ℕ, ◌+◌, ◌-◌, ◌<◌, ◌≤◌, zero, suc, Option, Some, List, [], ◌∷◌, ◌++◌, length, take, drop, get_or, refl, sym, ap, ◌∙◌, subst, arith, append_assoc, append-nil, length-append, add-one}
use Rattle.std.specs.Prelude.{slice_get}
use Rattle.std.specs.Int.{to_be_bytes, from_be_bytes, w16, w32}
use Rattle.std.specs.List.{AllByRecursion, flat_map}
use Rattle.std.proofs.Math.Seq.{take-append_seam, drop-append_seam}
use Rattle.std.proofs.lemmas.List.{drop-drop, take_all, take-append-drop}
use Rattle.std.proofs.lemmas.List.Concat.{flat_map-append}
use Rattle.std.proofs.lemmas.Nat.{from_be_bytes-to_be_bytes_2, from_be_bytes-to_be_bytes_4}
use Rattle.dns_label.specs.Name.{wire}
use Rattle.dns_label.specs.Labels.{labels_at}
use Rattle.dns_label.proofs.Spelling.{labels_at-reads, spelled-written}
use Rattle.dns_wire.specs.Flat.{IsWritten}
use Rattle.dns_wire.proofs.Flat.{flat-written}
use Rattle.dns_octets.specs.Numbers.{number_at}
use Rattle.dns_message.specs.Record.{IsRecord, record_octets}
use Rattle.zone_records.specs.Record.{Record}
use Rattle.zone_records.specs.Stored.{IsStored, AreStored, record_in, record_with, records_at, starts}
use Rattle.dns_octets.proofs.Fronts.{same_fronts}
use Rattle.zone_records.proofs.Each.{all_fronts}
use Rattle.zone_records.proofs.Indexed.{element_at}
use Rattle.zone_records.proofs.RecordFronts.{behind_owner, record_regrouped}

abbrev fields_of : List (List ℕ) → ℕ → ℕ → ℕ → List ℕ → Record
fields_of owner rtype class ttl rdata = record { owner = owner; rtype = rtype; class = class; ttl = ttl; rdata = rdata }

-- the fields after an owner are those that were written
fields_back : (r : Record) (rest : List ℕ) → IsRecord r → record_with r.owner (behind_owner r rest) ≡ r
fields_back r rest is =
    let rtype = from_be_bytes-to_be_bytes_2 r.rtype is.rtype in
    let class = from_be_bytes-to_be_bytes_2 r.class is.class in
    let ttl = from_be_bytes-to_be_bytes_4 r.ttl is.ttl in
    let len = from_be_bytes-to_be_bytes_2 (length r.rdata) is.rdata in
    let data' = ap (λ n. take n (r.rdata ++ rest)) len ∙ take-append_seam r.rdata rest in
    ap (λ n. fields_of r.owner n (from_be_bytes w16 (to_be_bytes w16 r.class)) (from_be_bytes w32 (to_be_bytes w32 r.ttl)) (take (from_be_bytes w16 (to_be_bytes w16 (length r.rdata))) (r.rdata ++ rest))) rtype
    ∙ ap (λ n. fields_of r.owner r.rtype n (from_be_bytes w32 (to_be_bytes w32 r.ttl)) (take (from_be_bytes w16 (to_be_bytes w16 (length r.rdata))) (r.rdata ++ rest))) class
    ∙ ap (λ n. fields_of r.owner r.rtype r.class n (take (from_be_bytes w16 (to_be_bytes w16 (length r.rdata))) (r.rdata ++ rest))) ttl
    ∙ ap (λ l. fields_of r.owner r.rtype r.class r.ttl l) data'

-- octets that begin with a record are read as that record
pub record_in_written : (octets rest : List ℕ) (r : Record) → IsRecord r → octets ≡ record_octets r ++ rest → record_in octets ≡ r
unfolding record_in
record_in_written octets rest r is whole =
    let at : octets ≡ wire r.owner ++ behind_owner r rest = whole ∙ record_regrouped r rest in
    let found : labels_at octets 0 ≡ r.owner =
    labels_at-reads (record { spelled = spelled-written octets 255 0 r.owner (behind_owner r rest) at is.owner.labels; is_name = is.owner }) in
    let behind : drop (length (wire (labels_at octets 0))) octets ≡ behind_owner r rest =
    ap (λ n. drop (length (wire n)) octets) found ∙ ap (λ l. drop (length (wire r.owner)) l) at ∙ drop-append_seam (wire r.owner) (behind_owner r rest) in
    ap (λ n. record_with n (drop (length (wire (labels_at octets 0))) octets)) found ∙ ap (λ l. record_with r.owner l) behind ∙ fields_back r rest is

-- octets that are one record
pub record_in_whole : (octets : List ℕ) (r : Record) → IsRecord r → octets ≡ record_octets r → record_in octets ≡ r
record_in_whole octets r is whole = record_in_written octets [] r is (whole ∙ sym (append-nil (record_octets r)))

-- the class of a stored record is two octets after its owner
pub class_at : (octets : List ℕ) (len : ℕ) → IsStored octets len → number_at octets (len + 2) ≡ (record_in octets).class
unfolding record_in
class_at octets len stored =
    ap (λ n. number_at octets (n + 2)) stored.owner
    ∙ ap (λ l. from_be_bytes w16 (take 2 l)) (sym (drop-drop 2 (length (wire (labels_at octets 0))) octets))

pub stored_of : (octets : List ℕ) (len : ℕ) (r : Record) → IsRecord r → octets ≡ record_octets r → len ≡ length (wire r.owner)
    → IsStored octets len
stored_of octets len r is whole long =
    let found = sym (record_in_whole octets r is whole) in
    let P : Record → Type 0 = λ x. IsRecord x in
    record {
      lawful = subst P found is;
      whole = whole ∙ ap record_octets found;
      owner = long ∙ ap (λ (x : Record). length (wire x.owner)) found;
    }

-- records that follow each other are read at the places where they begin
found_from : (octets front : List ℕ) (place : ℕ) (records : List Record) → AllByRecursion IsRecord records
    → octets ≡ front ++ flat_map record_octets records → place ≡ length front → records_at octets (starts place records) ≡ records
found_from octets front place [] each whole at = refl
found_from octets front place (r ∷ records) each whole at =
    let more = flat_map record_octets records in
    let here : drop place octets ≡ record_octets r ++ more =
    ap (λ n. drop n octets) at ∙ ap (λ l. drop (length front) l) whole ∙ drop-append_seam front (record_octets r ++ more) in
    let others = found_from octets (front ++ record_octets r) (place + length (record_octets r)) records each.1
    (whole ∙ sym (append_assoc front (record_octets r) more)) (omega (arith, at, length-append front (record_octets r))) in
    ap (λ x. x ∷ records_at octets (starts (place + length (record_octets r)) records)) (record_in_written (drop place octets) more r each.0 here)
    ∙ ap (λ l. r ∷ l) others

pub stored_view : (octets places : List ℕ) (records : List Record) → AreStored octets places records → records_at octets places ≡ records
stored_view octets places records are =
    ap (λ l. records_at octets l) are.begin ∙ found_from octets [] 0 records are.each are.whole refl

-- so the records that are read are stored
pub stored_found : (octets places : List ℕ) (records : List Record) → AreStored octets places records
    → AreStored octets places (records_at octets places)
stored_found octets places records are =
    let P : List Record → Type 0 = λ rs. AreStored octets places rs in subst P (sym (stored_view octets places records are)) are

starts_more : (place : ℕ) (records : List Record) (r : Record)
    → starts place (records ++ r ∷ []) ≡ starts place records ++ (place + length (flat_map record_octets records)) ∷ []
starts_more place [] r = ap (λ n. n ∷ []) (omega arith)
starts_more place (x ∷ records) r =
    let more = starts_more (place + length (record_octets x)) records r in
    let at : (place + length (record_octets x)) + length (flat_map record_octets records) ≡ place + length (record_octets x ++ flat_map record_octets records) =
    omega (arith, length-append (record_octets x) (flat_map record_octets records)) in
    ap (λ l. place ∷ l) (more ∙ ap (λ n. starts (place + length (record_octets x)) records ++ n ∷ []) at)

each_more : (records : List Record) (r : Record) → AllByRecursion IsRecord records → IsRecord r → AllByRecursion IsRecord (records ++ r ∷ [])
each_more [] r each is = (is, tt)
each_more (x ∷ records) r each is = (each.0, each_more records r each.1 is)

octets_more : (records : List Record) (r : Record)
    → flat_map record_octets records ++ record_octets r ≡ flat_map record_octets (records ++ r ∷ [])
octets_more [] r = sym (append-nil (record_octets r))
octets_more (x ∷ records) r =
    append_assoc (record_octets x) (flat_map record_octets records) (record_octets r) ∙ ap (λ l. record_octets x ++ l) (octets_more records r)

-- one record more
pub stored_more : (octets places octets' places' : List ℕ) (records : List Record) (r : Record) → AreStored octets places records → IsRecord r
    → octets' ≡ octets ++ record_octets r → places' ≡ places ++ length octets ∷ [] → AreStored octets' places' (records ++ r ∷ [])
stored_more octets places octets' places' records r are is whole at = record {
  each = each_more records r are.each is;
  whole = whole ∙ ap (λ l. l ++ record_octets r) are.whole ∙ octets_more records r;
  begin =
      at ∙ ap (λ l. places ++ length l ∷ []) are.whole ∙ ap (λ l. l ++ length (flat_map record_octets records) ∷ []) are.begin
      ∙ ap (λ n. starts 0 records ++ n ∷ []) (omega arith) ∙ sym (starts_more 0 records r);
}

-- one record less
pub take_before_last : {X : Type 0} (front : List X) (last : X) → take (length (front ++ last ∷ []) - 1) (front ++ last ∷ []) ≡ front
take_before_last front last =
    let long : length (front ++ last ∷ []) - 1 ≡ length front = omega (arith, length-append front (last ∷ [])) in
    ap (λ n. take n (front ++ last ∷ [])) long ∙ take-append_seam front (last ∷ [])

pub last_of : {X : Type 0} (first : X) (others : List X) → (front : List X) × (last : X) × (first ∷ others ≡ front ++ last ∷ [])
last_of first [] = ([], first, refl)
last_of first (next ∷ others) = let rest = last_of next others in (first ∷ rest.0, rest.1, ap (λ l. first ∷ l) rest.2)

one_less : (octets places kept : List ℕ) (place : ℕ) (front : List Record) (r : Record) → AreStored octets places (front ++ r ∷ [])
    → places ≡ kept ++ place ∷ [] → AreStored (take place octets) kept front
one_less octets places kept place front r are places_are =
    let at : ℕ = 0 + length (flat_map record_octets front) in
    let both : kept ++ place ∷ [] ≡ starts 0 front ++ at ∷ [] = sym places_are ∙ are.begin ∙ starts_more 0 front r in
    let long : length kept ≡ length (starts 0 front) =
    omega (arith, ap (length {A = ℕ}) both, length-append kept (place ∷ []), length-append (starts 0 front) (at ∷ [])) in
    let parts = same_fronts kept (starts 0 front) (place ∷ []) (at ∷ []) long both in
    let place_is : place ≡ at = let same = parts.1 in cc in
    let place_at : place ≡ length (flat_map record_octets front) = omega (arith, place_is) in
    let whole : octets ≡ flat_map record_octets front ++ record_octets r = are.whole ∙ sym (octets_more front r) in
    let each = all_fronts IsRecord front (r ∷ []) are.each in
    record {
      each = each.0;
      whole = ap (λ n. take n octets) place_at ∙ ap (take (length (flat_map record_octets front))) whole
          ∙ take-append_seam (flat_map record_octets front) (record_octets r);
      begin = parts.0;
    }

no_place_more : (kept : List ℕ) (place : ℕ) → [] ≡ kept ++ place ∷ [] → ⊥
no_place_more [] place same = cc
no_place_more (first ∷ kept) place same = cc

pub stored_less : (octets places octets' places' : List ℕ) (place : ℕ) (records : List Record) → AreStored octets places records
    → places ≡ places' ++ place ∷ [] → octets' ≡ take place octets → AreStored octets' places' (take (length records - 1) records)
stored_less octets places octets' places' place [] are at cut = absurd (no_place_more places' place (sym are.begin ∙ at))
stored_less octets places octets' places' place (first ∷ others) are at cut =
    let last = last_of first others in
    let less = one_less octets places places' place last.0 last.1 (subst (AreStored octets places) last.2 are) at in
    let front : take (length (first ∷ others) - 1) (first ∷ others) ≡ last.0 =
    ap (λ (l : List Record). take (length l - 1) l) last.2 ∙ take_before_last last.0 last.1 in
    subst (λ (l : List ℕ). AreStored l places' (take (length (first ∷ others) - 1) (first ∷ others))) (sym cut)
    (subst (AreStored (take place octets) places') (sym front) less)

pub stored_none : (octets places : List ℕ) → octets ≡ [] → places ≡ [] → AreStored octets places []
stored_none octets places none none' = record { each = tt; whole = none; begin = none' }

-- there are as many places as records
starts_length : (place : ℕ) (records : List Record) → length (starts place records) ≡ length records
starts_length place [] = refl
starts_length place (r ∷ records) = ap suc (starts_length (place + length (record_octets r)) records)

pub stored_length : (octets places : List ℕ) (records : List Record) → AreStored octets places records → length places ≡ length records
stored_length octets places records are = ap length are.begin ∙ starts_length 0 records

-- A record of the list: the octets before it and after it, its place, and that of the next one.
pub record StandsIn (octets places : List ℕ) (index : ℕ) (r : Record) : Type 0 where
  pub front : List ℕ
  pub behind : List ℕ
  pub is : IsRecord r
  pub whole : octets ≡ front ++ (record_octets r ++ behind)
  pub place : (d : ℕ) → get_or places index d ≡ length front
  pub next : (d : ℕ) → suc index < length places → get_or places (suc index) d ≡ length front + length (record_octets r)
  pub last : length places ≤ suc index → behind ≡ []

stands_from : (octets front : List ℕ) (place : ℕ) (records : List Record) (index : ℕ) (r : Record) → AllByRecursion IsRecord records
    → octets ≡ front ++ flat_map record_octets records → place ≡ length front → slice_get records index ≡ Some r
    → StandsIn octets (starts place records) index r
stands_from octets front place [] index r each whole at found = absurd cc
stands_from octets front place (x ∷ []) zero r each whole at found =
    let same : x ≡ r = cc in
    let P : Record → Type 0 = λ y. StandsIn octets (place ∷ []) 0 y in
    subst P same (record {
      front = front;
      behind = [];
      is = each.0;
      whole = whole;
      place = λ d. at;
      next = λ d more. absurd (omega (arith, more));
      last = λ none. refl;
    })
stands_from octets front place (x ∷ (y ∷ records)) zero r each whole at found =
    let same : x ≡ r = cc in
    let P : Record → Type 0 = λ z. StandsIn octets (starts place (x ∷ (y ∷ records))) 0 z in
    subst P same (record {
      front = front;
      behind = flat_map record_octets (y ∷ records);
      is = each.0;
      whole = whole;
      place = λ d. at;
      next = λ d more. ap (λ n. n + length (record_octets x)) at;
      last = λ none. absurd (omega (arith, none));
    })
stands_from octets front place (x ∷ records) (suc index) r each whole at found =
    let more = stands_from octets (front ++ record_octets x) (place + length (record_octets x)) records index r each.1
    (whole ∙ sym (append_assoc front (record_octets x) (flat_map record_octets records))) (omega (arith, at, length-append front (record_octets x))) found in
    record {
      front = more.front;
      behind = more.behind;
      is = more.is;
      whole = more.whole;
      place = λ d. more.place d;
      next = λ d within. more.next d (omega (arith, within));
      last = λ none. more.last (omega (arith, none));
    }

pub stands_in : (octets places : List ℕ) (records : List Record) (index : ℕ) (r : Record) → AreStored octets places records
    → slice_get records index ≡ Some r → StandsIn octets places index r
stands_in octets places records index r are found =
    let P : List ℕ → Type 0 = λ l. StandsIn octets l index r in
    subst P (sym are.begin) (stands_from octets [] 0 records index r are.each are.whole refl found)

-- the octets from its place to the next one's, or to the end, are its own
pub record IsPart (octets : List ℕ) (start end : ℕ) (records : List Record) (index : ℕ) : Type 0 where
  pub ordered : start ≤ end
  pub within : end ≤ length octets
  pub is : (r : Record) → slice_get records index ≡ Some r → take (end - start) (drop start octets) ≡ record_octets r

part_of : (octets front own behind : List ℕ) (start end : ℕ) → octets ≡ front ++ (own ++ behind) → start ≡ length front
    → end ≡ length front + length own → (start ≤ end) × (end ≤ length octets) × (take (end - start) (drop start octets) ≡ own)
part_of octets front own behind start end whole at to =
    let long = ap (length {A = ℕ}) whole in
    let count : end - start ≡ length own = omega (arith, at, to) in
    let tail : drop start octets ≡ own ++ behind = ap (λ n. drop n octets) at ∙ ap (λ l. drop (length front) l) whole ∙ drop-append_seam front (own ++ behind) in (
      omega (arith, at, to),
      omega (arith, to, long, length-append front (own ++ behind), length-append own behind),
      ap (λ n. take n (drop start octets)) count ∙ ap (λ l. take (length own) l) tail ∙ take-append_seam own behind,
    )

one_item : (records : List Record) (index : ℕ) (r other : Record) → slice_get records index ≡ Some r → slice_get records index ≡ Some other
    → r ≡ other
one_item records index r other is is' = let same : ◌≡◌ {A = Option Record} (Some r) (Some other) = sym is ∙ is' in cc

pub part_to_next : (octets places : List ℕ) (records : List Record) (index start end : ℕ) → AreStored octets places records
    → index < length records → index + 1 < length places → start ≡ get_or places index start → end ≡ get_or places (index + 1) end
    → IsPart octets start end records index
part_to_next octets places records index start end are within more start_is end_is =
    let at = element_at records index within in
    let stands = stands_in octets places records index at.0 are at.1 in
    let end_is' : end ≡ get_or places (suc index) end = rw add-one at end_is in
    let part = part_of octets stands.front (record_octets at.0) stands.behind start end stands.whole (start_is ∙ stands.place start)
    (end_is' ∙ stands.next end (omega (arith, more))) in
    record { ordered = part.0; within = part.1; is = λ r is. part.2 ∙ ap record_octets (one_item records index at.0 r at.1 is) }

pub part_to_end : (octets places : List ℕ) (records : List Record) (index start : ℕ) → AreStored octets places records
    → index < length records → length places ≤ index + 1 → start ≡ get_or places index start
    → IsPart octets start (length octets) records index
part_to_end octets places records index start are within last start_is =
    let at = element_at records index within in
    let stands = stands_in octets places records index at.0 are at.1 in
    let whole : octets ≡ stands.front ++ (record_octets at.0 ++ []) =
    stands.whole ∙ ap (λ l. stands.front ++ (record_octets at.0 ++ l)) (stands.last (omega (arith, last))) in
    let long = ap (length {A = ℕ}) whole in
    let part = part_of octets stands.front (record_octets at.0) [] start (length octets) whole (start_is ∙ stands.place start)
    (omega (arith, long, length-append stands.front (record_octets at.0 ++ []), length-append (record_octets at.0) [])) in
    record { ordered = part.0; within = part.1; is = λ r is. part.2 ∙ ap record_octets (one_item records index at.0 r at.1 is) }

take_none : {X : Type 0} (n : ℕ) → ◌≡◌ {A = List X} (take n []) []
take_none zero = refl
take_none (suc n) = refl

-- the first records of a list and those behind them
pub taken_from : {X : Type 0} (xs : List X) (first end : ℕ) → first ≤ end
    → take end xs ≡ take first xs ++ take (end - first) (drop first xs)
taken_from xs zero end ordered = let count : end ≡ end - 0 = omega arith in ap (λ n. take n xs) count
taken_from [] (suc first) zero ordered = absurd (omega (arith, ordered))
taken_from [] (suc first) (suc end) ordered = sym (take_none (suc end - suc first))
taken_from (x ∷ xs) (suc first) zero ordered = absurd (omega (arith, ordered))
taken_from (x ∷ xs) (suc first) (suc end) ordered =
    let count : end - first ≡ suc end - suc first = omega arith in
    ap (λ l. x ∷ l) (taken_from xs first end (omega (arith, ordered)) ∙ ap (λ n. take first xs ++ take n (drop first xs)) count)

-- the number of octets of two lists of records
octets_joined : (front back : List Record)
    → length (flat_map record_octets (front ++ back)) ≡ length (flat_map record_octets front) + length (flat_map record_octets back)
octets_joined front back =
    ap length (flat_map-append record_octets front back) ∙ length-append (flat_map record_octets front) (flat_map record_octets back)

start_at : (place : ℕ) (records : List Record) (count d : ℕ) → count < length records
    → get_or (starts place records) count d ≡ place + length (flat_map record_octets (take count records))
start_at place [] count d within = absurd (omega (arith, within))
start_at place (r ∷ records) zero d within = omega arith
start_at place (r ∷ records) (suc count) d within =
    omega (
      arith,
      start_at (place + length (record_octets r)) records count d (omega (arith, within)),
      length-append (record_octets r) (flat_map record_octets (take count records)),
    )

-- the place of a record is the number of octets before it
pub octets_to_place : (octets places : List ℕ) (records : List Record) (count place : ℕ) → AreStored octets places records
    → count < length places → place ≡ get_or places count place → place ≡ length (flat_map record_octets (take count records))
octets_to_place octets places records count place are within is =
    let P : List ℕ → Type 0 = λ l. place ≡ get_or l count place in
    omega (arith, subst P are.begin is, start_at 0 records count place (omega (arith, within, stored_length octets places records are)))

-- and all octets are those of all records
pub octets_to_end : (octets places : List ℕ) (records : List Record) (count : ℕ) → AreStored octets places records
    → length places ≤ count → length octets ≡ length (flat_map record_octets (take count records))
octets_to_end octets places records count are all =
    let whole : take count records ≡ records = take_all count records (omega (arith, all, stored_length octets places records are)) in
    ap length are.whole ∙ ap (λ (l : List Record). length (flat_map record_octets l)) (sym whole)

-- records of the list that follow each other
pub record ArePart (octets : List ℕ) (start to : ℕ) (records : List Record) (first end : ℕ) : Type 0 where
  pub ordered : start ≤ to
  pub within : to ≤ length octets
  pub are : take (to - start) (drop start octets) ≡ flat_map record_octets (take (end - first) (drop first records))

pub part_between : (octets places : List ℕ) (records : List Record) (first end start to : ℕ) → AreStored octets places records
    → first ≤ end → start ≡ length (flat_map record_octets (take first records)) → to ≡ length (flat_map record_octets (take end records))
    → ArePart octets start to records first end
part_between octets places records first end start to are ordered at at' =
    let front : List Record = take first records in
    let own : List Record = take (end - first) (drop first records) in
    let behind : List Record = drop end records in
    let ends : take end records ≡ front ++ own = taken_from records first end ordered in
    let split : records ≡ front ++ (own ++ behind) = sym (take-append-drop end records) ∙ ap (λ l. l ++ behind) ends ∙ append_assoc front own behind in
    let whole : octets ≡ flat_map record_octets front ++ (flat_map record_octets own ++ flat_map record_octets behind) =
    are.whole ∙ ap (flat_map record_octets) split ∙ flat_map-append record_octets front (own ++ behind)
    ∙ ap (λ l. flat_map record_octets front ++ l) (flat_map-append record_octets own behind) in
    let long = ap (λ (l : List Record). length (flat_map record_octets l)) ends ∙ octets_joined front own in
    let part = part_of octets (flat_map record_octets front) (flat_map record_octets own) (flat_map record_octets behind) start to whole at (at' ∙ long) in
    record { ordered = part.0; within = part.1; are = part.2 }

-- the owner's octets are a name, which is the record's
pub owner_front : (octets : List ℕ) (len : ℕ) → IsStored octets len → take len octets ≡ wire (record_in octets).owner
owner_front octets len stored =
    let r : Record = record_in octets in
    let at : octets ≡ wire r.owner ++ behind_owner r [] = stored.whole ∙ sym (append-nil (record_octets r)) ∙ record_regrouped r [] in
    ap (λ n. take n octets) stored.owner ∙ ap (λ l. take (length (wire r.owner)) l) at ∙ take-append_seam (wire r.owner) (behind_owner r [])

pub owner_written : (octets : List ℕ) (len : ℕ) → IsStored octets len → IsWritten (take len octets)
owner_written octets len stored = flat-written (take len octets) (record_in octets).owner stored.lawful.owner (owner_front octets len stored)
