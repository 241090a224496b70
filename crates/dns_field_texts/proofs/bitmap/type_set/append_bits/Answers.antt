use Rattle.std.proofs.Common.{◌≡◌, ◌<◌, ◌++◌, length, take, drop, min, rules}
use Rattle.std.proofs.lemmas.List.{take-append-drop, nil_from_length}
use Rattle.dns_field_texts.proofs.TypeWindows.{none_written, write_more, all_written}
use Rattle.dns_field_texts.proofs.bitmap.type_set.append_bits.Goals as goal

pub loop-left-init : goal.loop-left-init
loop-left-init c = none_written c.args.bits.now c.args.octets.now.items c.requires

pub loop-left-preserved : goal.loop-left-preserved
loop-left-preserved c =
    let left = c.loop-left.left.now in
    let window = c.split_at.result.0.now in
    let behind = c.split_at.result.1.now in
    let some : 0 < length left = search rules in
    let parts : take c.min.result left ++ drop c.min.result left ≡ left = take-append-drop c.min.result left in
    let split : left ≡ window ++ behind = cc in
    let few : length window ≡ min 32 (length left) = search rules in
    write_more c.args.bits.now c.args.octets.now.items c.loop-left.octets.items c.loop-left.number left c.loop-left.invariant some window behind split few
    c.trimmed.result.now c.append_window.new.octets.items c.trimmed.ensures c.in_ok-append_window.ensures.ok

pub returns-clause-ok : goal.returns-clause-ok
returns-clause-ok c =
    all_written c.args.bits.now c.args.octets.now.items c.loop-left.octets.items c.loop-left.number c.loop-left.left.now c.loop-left.invariant
    (nil_from_length _ (search rules))
