use Rattle.std.proofs.Common.{◌≡◌, ◌+◌, ◌*◌, ◌^◌, ◌<◌, ◌++◌, ℕ, List, map, take}
use Rattle.std.specs.Char.{to_ascii_lowercase}
use Rattle.zone_canonical.specs.OwnerKey.{code}
use Rattle.zone_canonical.proofs.owner_key.number_of.Given as goal

-- the number has the digits of the octets so far
abbrev pub invariant-loop-octet : goal.invariant-loop-octet
invariant-loop-octet l = record {
  fits : l.number < 512 ^ l.octet-index;
  digits : (left : ℕ) (label : List ℕ) (labels : List (List ℕ))
      → code (l.octet-index + left) (map to_ascii_lowercase (take l.octet-index l.octets ++ label)) labels
      ≡ l.number * 512 ^ left + code left (map to_ascii_lowercase label) labels;
}
