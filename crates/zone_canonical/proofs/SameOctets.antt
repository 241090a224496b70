-- Records that are written as the same octets are the same.
use Rattle.std.proofs.Common.{◌≡◌, ◌<◌, ℕ, List, [], ◌∷◌, ◌++◌, length, refl, sym, ap, ◌∙◌, arith, length-append}
use Rattle.std.specs.List.{AllByRecursion, flat_map}
use Rattle.dns_octets.proofs.Fronts.{same_fronts}
use Rattle.zone_records.specs.MessageRecord.{IsRecord, record_octets}
use Rattle.zone_records.specs.Record.{Record}
use Rattle.zone_records.proofs.StoredRecords.{record_in_written}

some_octets : (r : Record) → 0 < length (record_octets r)
some_octets r = some r.owner
  where
    some : (owner : List (List ℕ)) → 0 < length (record_octets (record { owner = owner; rtype = r.rtype; class = r.class; ttl = r.ttl; rdata = r.rdata }))
    some [] = omega arith
    some (label ∷ owner) = omega arith

nothing_written : (r : Record) (more : List ℕ) → [] ≡ record_octets r ++ more → ⊥
nothing_written r more e = omega (arith, ap (length {A = ℕ}) e, length-append (record_octets r) more, some_octets r)

pub same_records : (records others : List Record) → AllByRecursion IsRecord records → AllByRecursion IsRecord others
    → flat_map record_octets records ≡ flat_map record_octets others → records ≡ others
same_records [] [] each each' e = refl
same_records [] (other ∷ others) each each' e = absurd (nothing_written other (flat_map record_octets others) e)
same_records (r ∷ records) [] each each' e = absurd (nothing_written r (flat_map record_octets records) (sym e))
same_records (r ∷ records) (other ∷ others) each each' e =
    let more = flat_map record_octets records in
    let rest = flat_map record_octets others in
    let heads : r ≡ other = sym (record_in_written (record_octets r ++ more) more r each.0 refl) ∙ record_in_written (record_octets r ++ more) rest other each'.0 e in
    let fronts = same_fronts (record_octets r) (record_octets other) more rest (ap (λ x. length (record_octets x)) heads) e in
    let tails = same_records records others each.1 each'.1 fronts.1 in
    λ i. heads i ∷ tails i
