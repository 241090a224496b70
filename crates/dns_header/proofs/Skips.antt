-- When no record is skipped.
use Rattle.std.proofs.Common.{◌≡◌, ◌+◌, ◌<◌, ℕ, List, length, refl, ap, arith}
use Rattle.dns_wire.specs.Skip.{Skips}
use Rattle.dns_wire.proofs.Skipping.{skips-one}
use Rattle.dns_octets.specs.Numbers.{number_at}
use Rattle.dns_header.specs.SkipsRecord.{SkipsRecord}

pub skips_short : {message : List ℕ} {place behind : ℕ} → Skips message 254 place behind → length message < behind + 10
    → (next : ℕ) → SkipsRecord message place next → ⊥
skips_short skips short next is = omega (arith, short, is.whole, skips-one is.owner skips refl)

pub skips_cut : {message : List ℕ} {place behind : ℕ} → Skips message 254 place behind
    → length message < behind + 10 + number_at message (behind + 8) → (next : ℕ) → SkipsRecord message place next → ⊥
skips_cut {message} skips short next is =
    let ends = skips-one is.owner skips refl in
    omega (arith, short, is.ends, is.within, ends, ap (λ n. number_at message (n + 8)) ends)
