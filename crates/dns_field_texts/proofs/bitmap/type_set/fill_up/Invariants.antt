use Rattle.std.proofs.Common.{◌≡◌, ◌≤◌, ◌++◌, ◌-◌, ℕ, length, replicate}
use Rattle.dns_field_texts.proofs.bitmap.type_set.fill_up.Given as goal

abbrev pub invariant-loop-bits : goal.invariant-loop-bits
invariant-loop-bits l = record {
  zeros : (count : ℕ) × (l.bits.items ≡ l.fn.bits.items ++ replicate count 0);
  few : length l.fn.bits.items ≤ 8192 → l.len ≤ 8192 → length l.bits.items ≤ 8192;
}

abbrev pub decreases-loop-bits : goal.decreases-loop-bits
decreases-loop-bits l = l.len - length l.bits.items
