use Rattle.std.proofs.Common.{◌+◌, ◌*◌, ◌/◌, ◌≤◌, length}
use Rattle.std.specs.Vec.{vec_capacity, vec_len}
use Rattle.dns_field_texts.specs.AppendedBase64.{AppendsGroups}
use Rattle.dns_field_texts.proofs.base64.append_groups.Given as goal

abbrev pub invariant-loop-left : goal.invariant-loop-left
invariant-loop-left l = record {
  groups : AppendsGroups l.text l.left l.fn.octets.items l.octets.items;
  room : vec_len l.octets + 3 * (length l.left / 4) ≤ vec_capacity l.octets;
}

abbrev pub decreases-loop-left : goal.decreases-loop-left
decreases-loop-left l = length l.left
