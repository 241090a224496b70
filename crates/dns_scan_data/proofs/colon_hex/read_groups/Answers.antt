use Rattle.std.proofs.Common.{◌≡◌, ◌∷◌, ◌++◌, [], ◌-◌, ℕ, List, length, take, drop, sym, subst, arith, length-take-le}
use Rattle.std.proofs.lemmas.List.{places, take_more_set}
use Rattle.std.proofs.lemmas.Grind.{common_steps}
use Rattle.dns_scan_data.specs.ColonHex.{BeginsWithGroup, BeginsWithGroups}
use Rattle.dns_scan_data.proofs.ColonHex.{first_group, next_group, one_colon}
use Rattle.dns_scan_data.proofs.colon_hex.read_groups.Goals.{in-58, in_default-2}
use Rattle.dns_scan_data.proofs.colon_hex.read_groups.Goals as goal

pub loop-count-preserved : goal.loop-count-preserved
loop-count-preserved c =
    let left = c.loop-count.left.now in
    let text = c.args.text.now in
    let behind = c.in-Some.behind.now in
    let segment = c.in-Some.segment in
    let count = c.loop-count.count in
    let before = take count c.loop-count.segments in
    let many : length before ≡ count = length-take-le _ _ (omega arith) in
    let groups : BeginsWithGroups text (before ++ segment ∷ []) behind = elim c.if-left-lt1.branch [
      | in-58 w ↦
          let colon = one_colon left w.in-58.len_at_least (omega arith) in
          let same : c.if-left-lt1.group.now ≡ take (length left - 1) (drop 1 left) = cc in
          next_group before (omega arith) c.loop-count.invariant.groups colon
          (subst (λ (l : List ℕ). BeginsWithGroup l segment behind) same c.in-Some.ensures)
      | in_default-2 w ↦
          let same : c.if-left-lt1.group.now ≡ left = cc in
          first_group before (omega arith) c.loop-count.invariant.groups
          (subst (λ (l : List ℕ). BeginsWithGroup l segment behind) same c.in-Some.ensures)
    ] in
    let more = take_more_set c.loop-count.segments count segment (omega arith) in
    record {
      groups = subst (λ (l : List ℕ). BeginsWithGroups text l behind) (sym more) groups;
      within = omega arith;
      others = grind (arith, common_steps, places);
    }
