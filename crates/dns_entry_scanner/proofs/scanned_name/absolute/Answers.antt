use Rattle.std.proofs.Common.{ℕ, ◌+◌, ◌<◌, List, [], length, refl, subst, arith}
use Rattle.dns_label.specs.Name.{labels_wire, with_root}
use Rattle.dns_wire.specs.Chain.{before_root}
use Rattle.dns_entry_scanner.proofs.ChainedNames.{chain_fits}
use Rattle.dns_entry_scanner.proofs.scanned_name.absolute.Goals as goal

pub unreachable-requires : goal.unreachable-requires
unreachable-requires c =
    let name : List (List ℕ) = c.args.name in
    let is_name = c.as_slice-octets.ensures.name in
    let short = is_name.short in
    let P : List (List ℕ) → Type 0 = λ front. 254 < length (labels_wire front) + length (labels_wire (before_root (with_root name))) in
    chain_fits [] name is_name (omega (arith, short)) (subst P c.in_ok-empty_vec.ensures (c.in-Err.ensures.long.0 refl))
