-- A row of at most 65,535 octets is data of its type, and no long one. A longer one is none.
use Rattle.std.proofs.Common.{◌≡◌, ◌<◌, ◌^◌, ◌↔◌, ℕ, List, length, map, sym, ◌∙◌, ap, arith}
use Rattle.std.specs.Prelude.{Some, Ok, IsErrOf}
use Rattle.dns_fields.specs.Fields.{Field, kind_of, kinds_of, octets}
use Rattle.dns_fields.specs.Reading.{AreSoleFields, IsLongRow, NoRow, ReadsFields, ReadsRow}

pub short_data : {rtype : ℕ} {message : List ℕ} {place : ℕ} (row : List Field) → kinds_of rtype ≡ Some (map kind_of row)
    → ReadsFields message place row → length (octets row) < 2 ^ 16 → ReadsRow rtype message place row
short_data row kinds reads short = record {
  is_row = record { kinds = kinds; each = reads.each; short = short };
  spelled = reads.spelled;
}

same_kinds : (rtype : ℕ) (row other : List Field) → kinds_of rtype ≡ Some (map kind_of row) → kinds_of rtype ≡ Some (map kind_of other)
    → map kind_of other ≡ map kind_of row
same_kinds rtype row other kinds its = let both : Some (map kind_of other) ≡ Some (map kind_of row) = sym its ∙ kinds in cc

pub no_long_data : {rtype : ℕ} {message : List ℕ} {place : ℕ} (row : List Field) → kinds_of rtype ≡ Some (map kind_of row)
    → AreSoleFields message place row → 65535 < length (octets row) → NoRow rtype message place
no_long_data {rtype = rtype} row kinds alone long other reads =
    let one : other ≡ row =
    alone.sole other (same_kinds rtype row other kinds reads.is_row.kinds) (record { each = reads.is_row.each; spelled = reads.spelled }) in
    omega (arith, long, reads.is_row.short, ap (λ r. length (octets r)) one)

short_row : {rtype : ℕ} {message : List ℕ} {place : ℕ} (row : List Field) → kinds_of rtype ≡ Some (map kind_of row)
    → AreSoleFields message place row → length (octets row) < 2 ^ 16 → IsLongRow rtype message place → ⊥
short_row {rtype = rtype} row kinds alone short long =
    let one : long.row ≡ row = alone.sole long.row (same_kinds rtype row long.row kinds long.kinds) long.reads in
    omega (arith, long.long, ap (λ r. length (octets r)) one)

pub row_read : {rtype : ℕ} {message : List ℕ} {place : ℕ} {T E : Type 0} {value : T} {error : E} (row : List Field)
    → kinds_of rtype ≡ Some (map kind_of row) → AreSoleFields message place row → length (octets row) < 2 ^ 16
    → IsErrOf (Ok value) error ↔ IsLongRow rtype message place
row_read row kinds alone short = (λ other. absurd (cc), λ long. absurd (short_row row kinds alone short long))
