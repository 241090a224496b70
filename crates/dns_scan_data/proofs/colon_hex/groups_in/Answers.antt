use Rattle.std.proofs.Common.{◌≡◌, ◌≤◌, ◌-◌, ℕ, List, [], replicate, get_or, sym, subst, ◌∙◌, arith, length, take, drop, take_all, length-take-le}
use Rattle.std.proofs.lemmas.List.{take-append-le}
use Rattle.std.proofs.lemmas.Grind.{common_steps}
use Rattle.std.specs.Net.Grammar.{IsColonHex}
use Rattle.dns_scan_data.specs.ColonHex.{BeginsWithGroups}
use Rattle.dns_scan_data.proofs.ColonHex.{all_groups, elided_groups, placed, two_colons}
use Rattle.dns_scan_data.proofs.colon_hex.groups_in.Goals as goal

pub returns-then-is_empty : goal.returns-then-is_empty
returns-then-is_empty c =
    let read = c.read_groups-count in
    let eight : length read.new.segments ≡ 8 = omega arith in
    let whole : take read.result.0 read.new.segments ≡ read.new.segments = take_all _ _ (omega arith) in
    let none : read.result.1.now ≡ [] = grind (arith, common_steps) in
    let groups = subst (λ (l : List ℕ). BeginsWithGroups c.args.text.now l read.result.1.now) whole read.ensures.groups in
    subst (IsColonHex c.args.text.now) (sym c.from_segments.ensures) (all_groups read.new.segments groups none eight)

pub returns : goal.returns
returns c =
    let head = c.read_groups-count in
    let tail = c.read_groups-tail_count in
    let h = head.result.0 in
    let t = tail.result.0 in
    let left = head.result.1.now in
    let first : get_or left 0 0 ≡ 58 = omega arith in
    let second : get_or left 1 0 ≡ 58 = omega arith in
    let colons = two_colons left c.in-58.len_at_least first second in
    let groups : BeginsWithGroups (take (length left - 2) (drop 2 left)) (take t tail.new.segments) tail.result.1.now = tail.ensures.groups in
    let none : tail.result.1.now ≡ [] = grind (arith, common_steps) in
    let some : h ≤ 7 = omega arith in
    let len_h : length (take h head.new.segments) ≡ h = length-take-le _ _ (omega arith) in
    let part : length (take (7 - h) (replicate {A = ℕ} 7 0)) ≡ 7 - h = length-take-le _ _ (omega arith) in
    let room : t ≤ length (take (7 - h) (replicate {A = ℕ} 7 0)) = tail.ensures.within in
    let within : t ≤ length tail.new.segments = omega (arith, tail.auto.segments, tail.ensures.within) in
    let copy : c.copy_from_slice.new.self ≡ take t tail.new.segments = c.copy_from_slice.ensures.after ∙ take-append-le t _ _ within in
    let len_t : length (take t tail.new.segments) ≡ t = length-take-le _ _ within in
    let put = placed head.new.segments (take t tail.new.segments) c.copy_from_slice.new.self h t (omega arith) (omega arith) head.ensures.others copy len_t in
    subst (IsColonHex c.args.text.now) (sym (c.from_segments-2.ensures ∙ put))
    (elided_groups (take h head.new.segments) (take t tail.new.segments) head.ensures.groups colons groups none (omega arith))
