-- Data of a type is parsed, in the fields of the type if it has some.
use Rattle.std.proofs.Common.{◌≡◌, ℕ, List, [], map, refl, sym, ap, ◌∙◌, subst, arith}
use Rattle.std.specs.Prelude.{Some, None}
use Rattle.dns_message.specs.HeaderRecord.{RecordOf}
use Rattle.dns_message.specs.Held.{record_of}
use Rattle.dns_rdata.specs.Fields as fields
use Rattle.dns_rdata.specs.Fields.{Field, IsData, IsRow, kind_of, kinds_of, octets}
use Rattle.dns_rdata.specs.Reading.{ReadsRow}
use Rattle.dns_rdata.specs.Data as rdata
use Rattle.dns_rdata.specs.Data.{Data, ReadsData, number_of}
use Rattle.dns_rdata.specs.DataOctets.{data_octets}
use Rattle.dns_rdata.specs.ZoneData.{data_of}
use Rattle.dns_rdata.specs.declared.zone_record_data.ZoneRecordData.{ZoneRecordData}
use Rattle.dns_rdata.specs.declared.zone_record_data.ZoneRecordData.TheVariants.{Unknown}
use Rattle.dns_rdata.proofs.ComposedRows.{row_parses, row_parses_only}
use Rattle.dns_rdata.proofs.MadeData.{data_made}
use Rattle.zone_records.specs.Record.{Record}
use Rattle.zone_records.specs.Typed.{HasFieldsOfType, seen_of}

module _ (Octs N : Type 0) where
  -- all data in a message is the view of some value
  pub value_of_read : (message : List ℕ) (place rtype : ℕ) (found : Data) → ReadsData message place rtype found
      → (value : ZoneRecordData Octs N) × (data_of value ≡ found)
  value_of_read message place rtype (rdata.typed number row) reads =
      let value = data_made Octs N rtype (map kind_of row) reads.1.is_row.kinds row in
      (value.0, value.1 ∙ ap (λ n. rdata.typed n row) (sym reads.0))
  value_of_read message place rtype (rdata.unknown_data unknown) reads = (Unknown unknown, refl)

  -- data of a type is read as some data
  data_read : (rtype : ℕ) (data' : List ℕ) → IsData rtype data' → (value : ZoneRecordData Octs N) × ReadsData data' 0 rtype (data_of value)
  data_read rtype data' (fields.typed row is are) =
      let found = data_made Octs N rtype (map kind_of row) is.kinds row in
      let reads : ReadsRow rtype data' 0 row = subst (λ l. ReadsRow rtype l 0 row) (sym are) (row_parses rtype [] row is) in
      (found.0, subst (ReadsData data' 0 rtype) (sym found.1) (refl, reads))
  data_read rtype data' (fields.unknown none short) =
      (Unknown (record { number = rtype; octets = data' }), (none, record { of_type = refl; octets = refl; short = omega (arith, short) }))

  -- so parsing it does not fail, if the parser is at its start
  pub none_read : (rtype : ℕ) (data' message : List ℕ) (place : ℕ) → IsData rtype data' → message ≡ data' → place ≡ 0
      → ((value : ZoneRecordData Octs N) → ReadsData message place rtype (data_of value) → ⊥) → ⊥
  none_read rtype data' message place is same at none =
      let value = data_read rtype data' is in
      none value.0 (subst (λ l. ReadsData l place rtype (data_of value.0)) (sym same)
      (subst (λ n. ReadsData data' n rtype (data_of value.0)) (sym at) value.1))

-- what is parsed of the octets
pub record IsDataRead (rtype : ℕ) (data' : List ℕ) (found : Data) : Type 0 where
  pub number : number_of found ≡ rtype
  pub octets_are : data_octets found ≡ data'
  pub has : HasFieldsOfType found

data_typed : (rtype : ℕ) (data' : List ℕ) (found : Data) → IsData rtype data' → ReadsData data' 0 rtype found → IsDataRead rtype data' found
data_typed rtype data' (rdata.typed number row) (fields.typed row' is are) reads =
    let same : row ≡ row' = row_parses_only rtype [] row' row is (subst (λ l. ReadsRow rtype l 0 row) are reads.1) in
    record {
      number = reads.0;
      octets_are = ap octets same ∙ sym are;
      has = subst (λ n. IsRow n row) (sym reads.0) reads.1.is_row;
    }
data_typed rtype data' (rdata.typed number row) (fields.unknown none short) reads =
    absurd (let e : Some (map kind_of row) ≡ None = sym reads.1.is_row.kinds ∙ none in cc)
data_typed rtype data' (rdata.unknown_data unknown) is reads = record {
  number = reads.1.of_type;
  octets_are = reads.1.octets;
  has = ap kinds_of reads.1.of_type ∙ reads.0;
}

-- the same at the place of a parser
pub data_typed_at : (rtype : ℕ) (data' message : List ℕ) (place : ℕ) (found : Data) → IsData rtype data' → message ≡ data' → place ≡ 0
    → ReadsData message place rtype found → IsDataRead rtype data' found
data_typed_at rtype data' message place found is same at reads =
    data_typed rtype data' found is (subst (λ n. ReadsData data' n rtype found) at (subst (λ l. ReadsData l place rtype found) same reads))

pub data_as : (rtype own : ℕ) (data' own_data : List ℕ) → rtype ≡ own → data' ≡ own_data → IsData own own_data → IsData rtype data'
data_as rtype own data' own_data same same' is = subst (λ n. IsData n data') (sym same) (subst (IsData own) (sym same') is)

-- a record by its parts
pub record_made : {Octs N : Type 0} (r : Record) (made : RecordOf (List (List ℕ)) (ZoneRecordData Octs N)) (owner : List (List ℕ))
    (class ttl : ℕ) (value : ZoneRecordData Octs N) (rtype : ℕ) (data' : List ℕ)
    → made ≡ record { owner = owner; class = class; ttl = ttl; rdata = value } → owner ≡ r.owner → class ≡ r.class → ttl ≡ r.ttl
    → rtype ≡ r.rtype → data' ≡ r.rdata → number_of (data_of value) ≡ rtype → data_octets (data_of value) ≡ data'
    → record_of (seen_of made) ≡ r
record_made r made owner class ttl value rtype data' parts owner_is class_is ttl_is type_is data_is number octets_are =
    ap (λ m. record_of (seen_of m)) parts ∙ (λ i. record {
      owner = owner_is i;
      rtype = (number ∙ type_is) i;
      class = class_is i;
      ttl = ttl_is i;
      rdata = (octets_are ∙ data_is) i;
    })

pub has_as : {Octs N : Type 0} (made : RecordOf (List (List ℕ)) (ZoneRecordData Octs N)) (owner : List (List ℕ)) (class ttl : ℕ)
    (value : ZoneRecordData Octs N) → made ≡ record { owner = owner; class = class; ttl = ttl; rdata = value }
    → HasFieldsOfType (data_of value) → HasFieldsOfType (data_of made.rdata)
has_as made owner class ttl value parts has = subst (λ m. HasFieldsOfType (data_of m.rdata)) (sym parts) has
