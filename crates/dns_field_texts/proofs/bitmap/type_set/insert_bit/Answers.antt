use Rattle.std.proofs.Common.{arith}
use Rattle.dns_field_texts.proofs.TypeBits.{has_also}
use Rattle.dns_field_texts.proofs.bitmap.type_set.insert_bit.Goals as goal

pub returns-clause-ok : goal.returns-clause-ok
returns-clause-ok c =
    let zeros = c.in_ok-fill_up.ensures.zeros in
    let enough = c.in_ok-fill_up.ensures.ok in
    has_also c.args.bits.now.items c.set_bit.new.bits.items c.fill_up.new.bits.items zeros.0 c.args.rtype (omega (arith, enough)) zeros.1
    (rw c.from-place.ensures at c.set_bit.ensures.set)
