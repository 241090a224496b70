-- Octets are data of a type, or are not.
use Rattle.std.proofs.Common.{◌≡◌, ◌<◌, ◌^◌, ℕ, List, [], length, Some, None, refl, sym, ap, ◌∙◌, arith, inl, inr}
use Rattle.std.specs.Prelude.{Option}
use Rattle.std.proofs.lemmas.Bool.{cases_lt}
use Rattle.dns_rdata.specs.Fields.{Kind, IsData, kinds_of, octets}
use Rattle.dns_rdata.specs.Fields.IsData.{typed, unknown}
use Rattle.dns_rdata.proofs.ComposedRows.{data_parses, row_read_once}
use Rattle.dns_message.proofs.DecidedFields.{RowAt, row_decided}
use Rattle.zone_records.proofs.Decided.{Decided, decided_octets}

-- data has at most 65,535 octets
data_short : (rtype : ℕ) (data' : List ℕ) → IsData rtype data' → length data' < 2 ^ 16
data_short rtype data' (typed row is_row is) = omega (arith, is_row.short, ap (length {A = ℕ}) is)
data_short rtype data' (unknown none short) = short

-- octets of a type with fields: those of the row that they begin with, or no row
data_by_row : (rtype : ℕ) (data' : List ℕ) (kinds : List Kind) → kinds_of rtype ≡ Some kinds → Decided (RowAt rtype data' 0)
    → Decided (IsData rtype data')
data_by_row rtype data' kinds is (inr none) = inr (λ given.
    let found = data_parses rtype [] data' kinds is given in none (record { row = found.0; reads = found.1 }))
data_by_row rtype data' kinds is (inl at) = elim (decided_octets (octets at.row) data') [
  | inl same ↦ inl (typed at.row at.reads.is_row (sym same))
  | inr apart ↦ inr (λ given.
      let found = data_parses rtype [] data' kinds is given in
      apart (ap octets (row_read_once rtype data' 0 at.row found.0 at.reads found.1) ∙ found.2))
]

data_by_kinds : (rtype : ℕ) (data' : List ℕ) (kinds : Option (List Kind)) → kinds_of rtype ≡ kinds → Decided (IsData rtype data')
data_by_kinds rtype data' None none = elim (cases_lt (length data') (2 ^ 16)) [
  | inl short ↦ inl (unknown none short)
  | inr long ↦ inr (λ given. omega (arith, long, data_short rtype data' given))
]
data_by_kinds rtype data' (Some kinds) is = data_by_row rtype data' kinds is (row_decided rtype data' 0)

pub data_decided : (rtype : ℕ) (data' : List ℕ) → Decided (IsData rtype data')
data_decided rtype data' = data_by_kinds rtype data' (kinds_of rtype) refl
