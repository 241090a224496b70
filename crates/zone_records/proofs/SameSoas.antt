-- Two SOA records are equal exactly if their owners, their TTLs and the comparison keys of their data are.
use Rattle.std.proofs.Common.{◌≡◌, ℕ, true, List, [], ◌∷◌, map, None, refl, sym, ap, ◌∙◌, subst}
use Rattle.std.proofs.Common.{nat_eq}
use Rattle.std.specs.Cmp.Lexicographic.{pointwise}
use Rattle.std.specs.Int.{to_be_bytes, w32}
use lib.Pointwise.{pointwise_decides, bytes_decides}
use Rattle.dns_label.specs.Name.{low, wire}
use Rattle.dns_wire.proofs.Case.{wire_one}
use Rattle.dns_message.specs.Alike.{keys}
use Rattle.dns_rdata.specs.Fields.{Field, IsRow, field_octets, kinds_of, lowered, octets}
use Rattle.dns_rdata.specs.Fields.Field.{compressible, number32}
use Rattle.dns_rdata.specs.Data.{Data, data_eq, number_of, typed, unknown_data}
use Rattle.dns_rdata.specs.DataOctets.{data_octets}
use Rattle.dns_rdata.specs.Reading.{ReadsRow}
use Rattle.dns_rdata.proofs.ComposedRows.{row_parses, row_parses_only}
use Rattle.dns_octets.proofs.Fronts.{same_number32}
use Rattle.zone_records.specs.Record.{Record}
use Rattle.zone_records.specs.Records.{SameSoa}
use Rattle.zone_records.specs.Typed.{HasFieldsOfType}
use Rattle.zone_records.specs.Zone.{soa_type}
use Rattle.zone_records.proofs.SoaRows.{AreSmall, IsSoaRow, soa_row, soa_row_of}

-- numbers with equal keys are the same
same_numbers : (numbers others : List ℕ) → AreSmall numbers → AreSmall others → keys (map number32 numbers) ≡ keys (map number32 others)
    → numbers ≡ others
same_numbers [] [] small small' same = refl
same_numbers [] (n ∷ others) small small' same = absurd cc
same_numbers (n ∷ numbers) [] small small' same = absurd cc
same_numbers (n ∷ numbers) (m ∷ others) small small' same =
    let first : to_be_bytes w32 n ≡ to_be_bytes w32 m = cc in
    let behind : keys (map number32 numbers) ≡ keys (map number32 others) = cc in
    let number = same_number32 n m small.0 small'.0 first in
    let rest = same_numbers numbers others small.1 small'.1 behind in
    cc (number, rest)

lowered_numbers : (numbers : List ℕ) → map lowered (map number32 numbers) ≡ map number32 numbers
lowered_numbers [] = refl
lowered_numbers (n ∷ numbers) = ap (λ (l : List Field). number32 n ∷ l) (lowered_numbers numbers)

-- a row with its names in lower case
lowered_row : (row : List Field) (fields : IsSoaRow row) → map lowered row ≡ soa_row (low fields.mname) (low fields.rname) fields.numbers
lowered_row row fields =
    ap (map lowered) fields.row_is
    ∙ ap (λ (l : List Field). compressible (low fields.mname) ∷ compressible (low fields.rname) ∷ l) (lowered_numbers fields.numbers)

-- its keys: the octets of its fields
counted_numbers : (numbers : List ℕ) → keys (map number32 numbers) ≡ map field_octets (map number32 numbers)
counted_numbers [] = refl
counted_numbers (n ∷ numbers) = ap (λ (l : List (List ℕ)). to_be_bytes w32 n ∷ l) (counted_numbers numbers)

counted : (row : List Field) (fields : IsSoaRow row) → keys row ≡ map field_octets (map lowered row)
counted row fields =
    ap keys fields.row_is
    ∙ ap (λ (l : List (List ℕ)). wire (low fields.mname) ∷ wire (low fields.rname) ∷ l) (counted_numbers fields.numbers)
    ∙ sym (ap (map field_octets) (lowered_row row fields))

same_rows : (row row' : List Field) → IsSoaRow row → IsSoaRow row' → keys row ≡ keys row' → map lowered row ≡ map lowered row'
same_rows row row' fields fields' same =
    let there : keys (soa_row fields.mname fields.rname fields.numbers) ≡ keys (soa_row fields'.mname fields'.rname fields'.numbers) =
    sym (ap keys fields.row_is) ∙ same ∙ ap keys fields'.row_is in
    let first : wire (low fields.mname) ≡ wire (low fields'.mname) = cc there in
    let second : wire (low fields.rname) ≡ wire (low fields'.rname) = cc there in
    let third : keys (map number32 fields.numbers) ≡ keys (map number32 fields'.numbers) = cc there in
    let mname = wire_one (low fields.mname) (low fields'.mname) first in
    let rname = wire_one (low fields.rname) (low fields'.rname) second in
    let numbers = same_numbers fields.numbers fields'.numbers fields.small fields'.small third in
    lowered_row row fields ∙ (λ i. soa_row (mname i) (rname i) (numbers i)) ∙ sym (lowered_row row' fields')

-- a row is one by its octets
row_one : (row row' : List Field) → IsRow soa_type row → IsRow soa_type row' → octets row ≡ octets row' → row ≡ row'
row_one row row' is is' same =
    row_parses_only soa_type [] row' row is' (subst (λ l. ReadsRow soa_type l 0 row) same (row_parses soa_type [] row is))

-- the row that is parsed of an SOA's data
record IsSoaRead (data' : List ℕ) (read : Data) : Type 0 where
  row : List Field
  is : IsRow soa_type row
  are : data' ≡ octets row
  read_is : read ≡ typed soa_type row

soa_read : (data' : List ℕ) (read : Data) → number_of read ≡ soa_type → data_octets read ≡ data' → HasFieldsOfType read → IsSoaRead data' read
soa_read data' (typed number row) number_is are has = record {
  row = row;
  is = subst (λ n. IsRow n row) number_is has;
  are = sym are;
  read_is = ap (λ n. typed n row) number_is;
}
soa_read data' (unknown_data unknown) number_is are none = absurd (let bad : kinds_of soa_type ≡ None = ap kinds_of (sym number_is) ∙ none in cc)

-- rows are compared by their keys
rows_told : (row row' : List Field) → (data_eq (typed soa_type row) (typed soa_type row') ≡ true → keys row ≡ keys row')
    × (keys row ≡ keys row' → data_eq (typed soa_type row) (typed soa_type row') ≡ true)
unfolding data_eq
rows_told row row' =
    let decides = pointwise_decides {E = pointwise nat_eq} bytes_decides (keys row) (keys row') in
    (λ told. decides.0 told, λ same. decides.1 same)

-- the result of a comparison of the data of two records
module _ (soa other : Record) (read other_read : Data) (number_is : number_of read ≡ soa_type) (are : data_octets read ≡ soa.rdata)
    (has : HasFieldsOfType read) (other_number : number_of other_read ≡ soa_type) (other_are : data_octets other_read ≡ other.rdata)
    (other_has : HasFieldsOfType other_read) where
  one : IsSoaRead soa.rdata read
  one = soa_read soa.rdata read number_is are has

  another : IsSoaRead other.rdata other_read
  another = soa_read other.rdata other_read other_number other_are other_has

  pub same_told : data_eq read other_read ≡ true → low soa.owner ≡ low other.owner → soa.class ≡ other.class → soa.ttl ≡ other.ttl → SameSoa soa other
  same_told told owner class ttl =
      let there : data_eq (typed soa_type one.row) (typed soa_type another.row) ≡ true =
      (λ i. data_eq (sym one.read_is i) (sym another.read_is i)) ∙ told in record {
        owner = owner;
        class = class;
        ttl = ttl;
        row = one.row;
        other_row = another.row;
        is = (one.is, one.are);
        other_is = (another.is, another.are);
        same = same_rows one.row another.row (soa_row_of one.row one.is) (soa_row_of another.row another.is) ((rows_told one.row another.row).0 there);
      }

  pub told_same : SameSoa soa other → data_eq read other_read ≡ true
  told_same same =
      let row = row_one one.row same.row one.is same.is.0 (sym one.are ∙ same.is.1) in
      let row' = row_one another.row same.other_row another.is same.other_is.0 (sym another.are ∙ same.other_is.1) in
      let rows : map lowered one.row ≡ map lowered another.row = ap (map lowered) row ∙ same.same ∙ sym (ap (map lowered) row') in
      let alike : keys one.row ≡ keys another.row =
      counted one.row (soa_row_of one.row one.is) ∙ ap (map field_octets) rows ∙ sym (counted another.row (soa_row_of another.row another.is)) in
      (λ i. data_eq (one.read_is i) (another.read_is i)) ∙ (rows_told one.row another.row).1 alike
