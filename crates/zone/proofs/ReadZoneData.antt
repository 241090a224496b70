-- The data of a zone's record is that of its type.
use Rattle.std.proofs.Common.{◌≡◌, ℕ, zero, suc, ◌<◌, List, [], ◌∷◌, get_or, length, arith, inl, inr}
use Rattle.std.proofs.Math.Logic.{∥∥₁_elim}
use Rattle.std.specs.List.{AllByRecursion}
use Rattle.dns_rdata.specs.Fields.{IsData}
use Rattle.zone_records.specs.Record.{Record}
use Rattle.zone_records.specs.Typed.{HasLawfulData}
use Rattle.zone_records.proofs.Decided.{Decided}
use Rattle.zone_records.proofs.DecidedData.{data_decided}
use Rattle.zone_records.proofs.ReadData.{data_as}

lawful_at : (records : List Record) (index : ℕ) (other : Record) → index < length records → AllByRecursion HasLawfulData records
    → HasLawfulData (get_or records index other)
lawful_at [] index other within all = absurd (omega arith)
lawful_at (r ∷ records) zero other within all = all.0
lawful_at (r ∷ records) (suc index) other within all = lawful_at records index other (omega arith) all.1

-- by its parts, as the calls for them return them
pub data_at : (records : List Record) (index : ℕ) (other : Record) (rtype : ℕ) (data' : List ℕ) → index < length records
    → ∥ AllByRecursion HasLawfulData records ∥₁ → rtype ≡ (get_or records index other).rtype
    → data' ≡ (get_or records index other).rdata → IsData rtype data'
data_at records index other rtype data' within lawful same same' = decide (data_decided rtype data')
  where
    decide : Decided (IsData rtype data') → IsData rtype data'
    decide (inl is) = is
    decide (inr not) = absurd (∥∥₁_elim lawful (λ x y. absurd x)
        (λ all. not (data_as _ _ _ _ same same' (lawful_at records index other within all))))
