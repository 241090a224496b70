use Rattle.std.proofs.Common.{◌≡◌, ◌+◌, ◌*◌, ◌^◌, ◌<◌, ℕ, map, reverse}
use Rattle.std.specs.Char.{to_ascii_lowercase}
use Rattle.dns_label.specs.Name.{low}
use Rattle.zone_canonical.specs.OwnerKey.{code}
use Rattle.zone_canonical.proofs.owner_key.Digits.next_across.Given as goal

-- this number of digits is in the number, and the others are those to come
abbrev pub invariant-loop : goal.invariant-loop
invariant-loop l = record {
  fits : l.number < 512 ^ l.counter;
  whole : (more left : ℕ) → l.counter + more ≡ 7
      → code (7 + left) (map to_ascii_lowercase l.fn.self.label.now) (reverse (low l.fn.self.labels))
      ≡ l.number * 512 ^ (more + left) + code (more + left) (map to_ascii_lowercase l.self.label.now) (reverse (low l.self.labels));
}
