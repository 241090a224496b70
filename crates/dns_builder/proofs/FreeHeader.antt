-- No remembered suffix is in the header, whatever is written after it or cut off.
use Rattle.std.proofs.Common.{◌≡◌, ◌≤◌, ℕ, true, ◌⊎◌, List, length, inl, inr, subst, arith}
use Rattle.dns_octets.specs.Builder.{Standing, Known, StandsBetween, GrowsTo, before}
use Rattle.dns_name.specs.Remembered.{IsKnown, is_free}
use Rattle.dns_name.proofs.Known.{known-append_cases, each_known, known_before, free_cases, free_from}

pub free_within : (begin end first last : ℕ) (known : Known) → is_free begin end known ≡ true → begin ≤ first → last ≤ end
    → is_free first last known ≡ true
free_within begin end first last known free above below =
    free_from first last known (λ standing is. narrower standing (free_cases begin end known free standing is))
  where
    narrower : (standing : Standing) → (standing.stop ≤ begin) ⊎ (end ≤ standing.place) → (standing.stop ≤ first) ⊎ (last ≤ standing.place)
    narrower standing (inl front) = inl (omega (arith, above))
    narrower standing (inr behind) = inr (omega (arith, below))

pub free_before : (begin end len : ℕ) (known : Known) → is_free begin end known ≡ true → is_free begin end (before len known) ≡ true
free_before begin end len known free =
    free_from begin end (before len known) (λ standing is. free_cases begin end known free standing (known_before len known standing is).0)

pub free_grown : {old new : List ℕ} {known more : Known} (begin end : ℕ) → GrowsTo old known new more → end ≤ length old
    → is_free begin end known ≡ true → is_free begin end more ≡ true
free_grown {old} {new} {known} {more} begin end grows within free =
    free_from begin end more (λ standing is. by_side standing (known-append_cases known grows.added (subst (IsKnown standing) grows.known is)))
  where
    by_side : (standing : Standing) → IsKnown standing known ⊎ IsKnown standing grows.added → (standing.stop ≤ begin) ⊎ (end ≤ standing.place)
    by_side standing (inl is) = free_cases begin end known free standing is
    by_side standing (inr is) =
        let stands = each_known (StandsBetween (length old) (length new)) grows.added grows.between standing is in
        inr (omega (arith, stands.begins, within))
