-- A record with what is ignored as 0 has a canonical form too.
use Rattle.std.proofs.Common.{◌≡◌, ◌≤◌, ◌<◌, ◌+◌, ◌^◌, ◌-◌, take, drop, ℕ, Bool, true, false, Some, List, [], ◌∷◌, ◌++◌, length, map, refl, sym, ap, ◌∙◌, subst, arith, append_assoc, length-append, length-take, length-drop}
use Rattle.std.specs.Prelude.{◌==◌, ◌&&◌, filter, slice_get}
use Rattle.std.specs.Prelude.{if◌then◌else◌}
use Rattle.std.specs.Int.{to_be_bytes, w16, w32}
use Rattle.std.specs.List.{AllByRecursion}
use Rattle.std.proofs.lemmas.Bool.{and_parts, eqb-true}
use Rattle.std.proofs.lemmas.Bool.Decides.{nat_tests}
use Rattle.std.proofs.lemmas.List.Elements.{filter-append}
use Rattle.std.proofs.lemmas.List.{map-append, take_all}
use Rattle.dns_label.specs.Name.{wire}
use Rattle.zone_records.specs.MessageRecord.{record_octets}
use Rattle.dns_rdata.specs.Fields.{IsData}
use Rattle.zone_records.specs.Record.{Record}
use Rattle.zone_records.specs.Zone.{soa_type}
use Rattle.zone_records.proofs.Indexed.{take-next}
use Rattle.zone_canonical.specs.Canonical.{HasCanonicalForm}
use Rattle.zone_tool.specs.Selected.{compared_data, compared_of, is_compared, selected_of, without_serial}
use Rattle.zone_tool.specs.declared.selection.Selection.{Selection}
use Rattle.zone_tool.proofs.SoaData.{IsSoaData, soa_data}

-- whether the record's serial is ignored
abbrev pub is_zeroed : Selection → Record → Bool
is_zeroed selection r = selection.ignore_serial && (r.rtype == soa_type)

-- then it has one
pub zeroed_soa : (selection : Selection) (r : Record) → HasCanonicalForm r → is_zeroed selection r ≡ true
    → (r.rtype ≡ soa_type) × IsSoaData r.rdata
zeroed_soa selection r has is =
    let soa : r.rtype ≡ soa_type = eqb-true r.rtype soa_type (and_parts selection.ignore_serial (r.rtype == soa_type) is).1 in
    (soa, soa_data r.rdata (subst (λ n. IsData n r.rdata) soa has.data_is))

length-without_serial : (data' : List ℕ) → 20 ≤ length data' → length (without_serial data') ≡ length data'
length-without_serial data' long = simp (length-append, length-take, length-drop) (omega arith)

-- data of the record's type, and as long as its own
abbrev IsAlike : Record → List ℕ → Type 0
IsAlike r data' = IsData r.rtype data' × (length data' ≡ length r.rdata)

compared_is : (selection : Selection) (r : Record) → HasCanonicalForm r → IsAlike r (compared_data selection r)
compared_is selection r has =
    elim (is_zeroed selection r) as (λ b. is_zeroed selection r ≡ b → IsAlike r (if b then without_serial r.rdata else r.rdata)) [
      | true ↦ λ is.
          let soa = zeroed_soa selection r has is in
          (subst (λ n. IsData n (without_serial r.rdata)) (sym soa.0) soa.1.zeroed, length-without_serial r.rdata soa.1.long)
      | false ↦ λ is. (has.data_is, refl)
    ] refl

pub compared_has : (selection : Selection) (r : Record) → HasCanonicalForm r → HasCanonicalForm (compared_of selection r)
compared_has selection r has =
    let is = compared_is selection r has in
    record {
      lawful = record {
        owner = has.lawful.owner;
        rtype = has.lawful.rtype;
        class = has.lawful.class;
        ttl = grind (arith, nat_tests, has.lawful.ttl);
        rdata = subst (λ n. n < 2 ^ 16) (sym is.1) has.lawful.rdata;
      };
      data_is = is.0;
    }

-- the octets of the record as it is compared, written field by field
pub compared_written : (selection : Selection) (r : Record) (front owner rtype class ttl len octets : List ℕ) → HasCanonicalForm r
    → owner ≡ front ++ wire r.owner → rtype ≡ owner ++ to_be_bytes w16 r.rtype → class ≡ rtype ++ to_be_bytes w16 r.class
    → ttl ≡ class ++ to_be_bytes w32 (compared_of selection r).ttl → len ≡ ttl ++ to_be_bytes w16 (length r.rdata)
    → octets ≡ len ++ compared_data selection r → octets ≡ front ++ record_octets (compared_of selection r)
compared_written selection r front owner rtype class ttl len octets has owner_is rtype_is class_is ttl_is len_is octets_is =
    let long : length (compared_data selection r) ≡ length r.rdata = (compared_is selection r has).1 in
    rw (octets_is, len_is, ttl_is, class_is, rtype_is, owner_is, long) (simp append_assoc)

abbrev is_in : Selection → Record → Bool
is_in selection r = is_compared selection r.rtype

-- the records that are compared have canonical forms
pub selected_has : (selection : Selection) (records : List Record) → AllByRecursion HasCanonicalForm records
    → AllByRecursion HasCanonicalForm (selected_of selection records)
selected_has selection [] each = tt
selected_has selection (r ∷ records) each =
    let others = selected_has selection records each.1 in
    elim (is_in selection r)
    as (λ b. AllByRecursion HasCanonicalForm (map (compared_of selection) (if b then r ∷ filter (is_in selection) records else filter (is_in selection) records))) [
      | true ↦ (compared_has selection r each.0, others)
      | false ↦ others
    ]

-- one record more, which is compared or not
pub selected_next : (selection : Selection) (records : List Record) (index : ℕ) (r : Record) (chosen : Bool) → slice_get records index ≡ Some r
    → is_in selection r ≡ chosen
    → selected_of selection (take (index + 1) records)
    ≡ selected_of selection (take index records) ++ map (compared_of selection) (if chosen then r ∷ [] else [])
selected_next selection records index r chosen at is =
    ap (selected_of selection) (take-next records index r at)
    ∙ ap (map (compared_of selection)) (filter-append (is_in selection) (take index records) (r ∷ []))
    ∙ map-append (compared_of selection) (filter (is_in selection) (take index records)) (filter (is_in selection) (r ∷ []))
    ∙ ap (λ (b : Bool). selected_of selection (take index records) ++ map (compared_of selection) (if b then r ∷ [] else [])) is

-- data with the serial 0, written in three parts
pub zeroed_written : (data' front begun zeros octets : List ℕ) → begun ≡ front ++ take (length data' - 20) data'
    → zeros ≡ begun ++ 0 ∷ 0 ∷ 0 ∷ 0 ∷ [] → octets ≡ zeros ++ take (length data' - (length data' - 16)) (drop (length data' - 16) data')
    → octets ≡ front ++ without_serial data'
zeroed_written data' front begun zeros octets begun_is zeros_is octets_is =
    let last = drop (length data' - 16) data' in
    let whole : take (length data' - (length data' - 16)) last ≡ last = take_all _ last (omega (arith, length-drop (length data' - 16) data')) in
    rw (octets_is, whole, zeros_is, begun_is) (simp append_assoc)

pub data_is : (selection : Selection) (r : Record) (zeroed : Bool) → is_zeroed selection r ≡ zeroed
    → (if zeroed then without_serial r.rdata else r.rdata) ≡ compared_data selection r
data_is selection r zeroed is = sym (ap (λ (b : Bool). if b then without_serial r.rdata else r.rdata) is)
