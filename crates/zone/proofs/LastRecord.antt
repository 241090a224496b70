-- The last record in octets, and the owner of the first.
use Rattle.std.proofs.Common.{◌≡◌, ◌≢◌, ◌≤◌, ◌++◌, ◌∙◌, ℕ, List, [], ◌∷◌, Option, Some, None, length, take, drop, refl, sym, ap, subst, arith, length-append}
use Rattle.std.proofs.Math.Seq.{take-append_seam, drop-append_seam}
use Rattle.dns_label.specs.Name.{IsName, wire}
use Rattle.dns_wire.specs.Flat.{IsWritten}
use Rattle.dns_wire.proofs.Case.{wire_one}
use Rattle.dns_wire.proofs.Flat.{flat-written}
use Rattle.zone_records.specs.MessageRecord.{record_octets}
use Rattle.zone_records.specs.Record.{Record}
use Rattle.zone_records.proofs.RecordFronts.{behind_owner, record_regrouped}
use Rattle.zone.specs.Reading.{BeginWith, StandsLast, name_len}

-- the place is within the octets, which are split there
pub place_within : {octets : List ℕ} {place : ℕ} {apex : Option (List (List ℕ))} {r : Record} → StandsLast octets place apex r → place ≤ length octets
place_within {r = r} stands =
    let long = ap (length {A = ℕ}) stands.whole in
    let at = stands.at in omega (arith, at, long, length-append stands.before (record_octets r))

pub front_is : {octets : List ℕ} {place : ℕ} {apex : Option (List (List ℕ))} {r : Record} (front : List ℕ) → (stands : StandsLast octets place apex r)
    → front ≡ take place octets → front ≡ stands.before
front_is {octets} {place} {r = r} front stands is =
    is ∙ ap (λ n. take n octets) stands.at ∙ ap (λ l. take (length stands.before) l) stands.whole ∙ take-append_seam stands.before (record_octets r)

pub back_is : {octets : List ℕ} {place : ℕ} {apex : Option (List (List ℕ))} {r : Record} (back : List ℕ) → StandsLast octets place apex r
    → back ≡ drop place octets → back ≡ record_octets r
back_is {octets} {place} {r = r} back stands is =
    is ∙ ap (λ n. drop n octets) stands.at ∙ ap (λ l. drop (length stands.before) l) stands.whole ∙ drop-append_seam stands.before (record_octets r)

record_front : (r : Record) (rest : List ℕ) → take (length (wire r.owner)) (record_octets r ++ rest) ≡ wire r.owner
record_front r rest =
    ap (λ l. take (length (wire r.owner)) l) (record_regrouped r rest) ∙ take-append_seam (wire r.owner) (behind_owner r rest)

-- the octets of the apex, which is the owner of the first record
apex_front : (apex : List (List ℕ)) (octets : List ℕ) {len : ℕ} → BeginWith (Some apex) octets → len ≡ length (wire apex)
    → take len octets ≡ wire apex
apex_front apex octets begin long =
    ap (λ n. take n octets) (long ∙ ap (λ n. length (wire n)) begin.4) ∙ ap (λ l. take (length (wire begin.0.owner)) l) begin.3
    ∙ record_front begin.0 begin.1 ∙ ap wire (sym begin.4)

-- are all there
pub apex_long : (apex : Option (List (List ℕ))) (octets : List ℕ) {len : ℕ} → BeginWith apex octets → len ≡ name_len apex
    → len ≡ length (take len octets)
apex_long None octets begin none = none ∙ sym (ap (λ n. length (take n octets)) none)
apex_long (Some apex) octets begin long = long ∙ sym (ap (length {A = ℕ}) (apex_front apex octets begin long))

-- are those of a name
pub apex_written : (apex : Option (List (List ℕ))) (octets : List ℕ) {len : ℕ} → BeginWith apex octets → len ≡ name_len apex → len ≢ 0
    → IsWritten (take len octets)
apex_written None octets begin none some = absurd (some none)
apex_written (Some apex) octets {len} begin long some =
    flat-written (take len octets) apex (subst IsName (sym begin.4) begin.2.owner) (apex_front apex octets begin long)

-- and of no other
pub apex_is : (apex : Option (List (List ℕ))) (octets : List ℕ) {len : ℕ} → BeginWith apex octets → len ≡ name_len apex → len ≢ 0
    → (name : List (List ℕ)) → take len octets ≡ wire name → Some name ≡ apex
apex_is None octets begin none some name written = absurd (some none)
apex_is (Some apex) octets begin long some name written =
    ap Some (wire_one name apex (sym written ∙ apex_front apex octets begin long))

name_some : (name : List (List ℕ)) → length (wire name) ≢ 0
name_some [] none = absurd (omega (arith, none))
name_some (label ∷ name) none = absurd (omega (arith, none))

pub no_apex : (apex : Option (List (List ℕ))) → name_len apex ≡ 0 → None ≡ apex
no_apex None none = refl
no_apex (Some apex) none = absurd (name_some apex none)
