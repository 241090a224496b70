use Rattle.std.proofs.Common.{◌-◌, ◌∷◌, List, ℕ, [], length, take, drop, get_or, refl, subst, sym, arith, length-take, length-drop}
use Rattle.dns_field_texts.specs.AppendedBase64.{AppendsGroups}
use Rattle.dns_field_texts.proofs.AppendedBase64.{four_first, groups_more, groups_none, three_pushed}
use Rattle.dns_field_texts.proofs.base64.append_groups.Goals as goal

pub loop-left-init : goal.loop-left-init
loop-left-init c = record {
  groups =
      subst (λ (l : List ℕ). AppendsGroups c.args.text.now c.args.text.now c.args.octets.now.items l) (sym c.in_ok-reserve.ensures.items)
      (groups_none c.args.text.now c.args.octets.now.items);
  room = omega (arith, c.in_ok-reserve.ensures.ok, c.in_ok-reserve.ensures.len);
}

pub loop-left-preserved : goal.loop-left-preserved
loop-left-preserved c =
    let left = c.loop-left.left.now in
    let front = get_or left 0 0 ∷ get_or left 1 0 ∷ get_or left 2 0 ∷ get_or left 3 0 ∷ [] in
    let behind = take (length left - 4) (drop 4 left) in
    let pushed = three_pushed c.loop-left.octets.items c.in-Some.group c.in-Some.ensures c.push_reserved.ensures.items c.push_reserved-in-len4-up.ensures.items c.push_reserved-in-len4-up-2.ensures.items in record {
      groups = groups_more front behind _ c.loop-left.invariant.groups (four_first left c.in-len4-up.len_at_least) c.in-Some.ensures refl pushed;
      room =
          omega (
            arith,
            c.loop-left.invariant.room,
            c.in-len4-up.len_at_least,
            length-take (length left - 4) (drop 4 left),
            length-drop 4 left,
            c.push_reserved.ensures.len,
            c.push_reserved-in-len4-up.ensures.len,
            c.push_reserved-in-len4-up-2.ensures.len,
            c.push_reserved.ensures.capacity,
            c.push_reserved-in-len4-up.ensures.capacity,
            c.push_reserved-in-len4-up-2.ensures.capacity,
          );
    }
