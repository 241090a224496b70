-- A spelling for the tests: one suffix is remembered, up to ASCII case or octet for octet.
use Rattle.std.specs.Prelude.{ℕ, Bool, Option, Some, None, List, [], ◌∷◌, ◌&&◌, ◌-◌, slice_range, nat_le, nat_lt, false, if◌then◌else◌}
use Rattle.dns_octets.specs.Builder.{Known}
use Rattle.dns_name.specs.Spelling.{Spelling, folded}

-- a spelling with one suffix; the argument says whether it folds case
abbrev pub one_suffix : Bool → Spelling
one_suffix folds = record { folds = folds; most = Some 1; far = false }

-- what is remembered, if anything: the name in full between two places, as the spelling compares it
abbrev pub remembered : Bool → List ℕ → Option (ℕ × ℕ) → Known
remembered folds octets None = []
remembered folds octets (Some between) =
    record { suffix = folded (one_suffix folds) (slice_range octets between.0 between.1); place = between.0; stop = between.1 } ∷ []

-- these places, if the name still fits after the octets are cut to a length
abbrev pub within : ℕ → Option (ℕ × ℕ) → Option (ℕ × ℕ)
within len None = None
within len (Some between) = if nat_le between.1 len then Some between else None

-- a name between two places, unless it is the root or no pointer reaches it
abbrev pub standing_at : ℕ → ℕ → Option (ℕ × ℕ)
standing_at place stop = if (nat_lt place 16384 && nat_lt 1 (stop - place)) then Some (place, stop) else None
