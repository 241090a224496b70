use Rattle.std.proofs.Common.{◌≡◌, ◌-◌, ◌<◌, ◌≤◌, ◌^◌}
use Rattle.dns_field_texts.proofs.location.place.Precision.of_centimetres.Given as goal

abbrev pub invariant-loop-power : goal.invariant-loop-power
invariant-loop-power l = (l.unit ≡ 10 ^ l.power) × (l.power ≤ 9) × (0 < l.power → l.unit ≤ l.centimetres) × (0 < l.unit) × (l.unit ≤ 9000000000)

abbrev pub decreases-loop-power : goal.decreases-loop-power
decreases-loop-power l = 9 - l.power
