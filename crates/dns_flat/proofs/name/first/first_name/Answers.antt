use Rattle.std.proofs.Common.{◌+◌, length-take-le, sym, subst, arith}
use Rattle.dns_flat.proofs.FirstNames.{Walked, walked_here, walked_name, walked_on, walked_within, walked_written}
use Rattle.dns_flat.proofs.name.first.first_name.Goals as goal

pub loop-end-init : goal.loop-end-init
loop-end-init c = walked_here c.requires

pub bounds-octets-end : goal.bounds-octets-end
bounds-octets-end c = walked_within c.loop-end.invariant

pub loop-end-smaller : goal.loop-end-smaller
loop-end-smaller c = omega (arith, walked_within c.loop-end.invariant)

pub loop-end-preserved : goal.loop-end-preserved
loop-end-preserved c =
    subst (λ n. Walked c.args.octets.now (c.loop-end.end + (n + 1))) (sym c.from.ensures)
    (walked_on c.loop-end.invariant c.loop-end-test.true)

pub overflow_add-end-2 : goal.overflow_add-end-2
overflow_add-end-2 c = omega (arith, walked_within c.loop-end.invariant)

pub slice_bounds-from_octets_unchecked-end : goal.slice_bounds-from_octets_unchecked-end
slice_bounds-from_octets_unchecked-end c =
    sym (length-take-le (c.loop-end.end + 1) c.args.octets.now (omega (arith, walked_within c.loop-end.invariant)))

pub from_octets_unchecked-requires : goal.from_octets_unchecked-requires
from_octets_unchecked-requires c = walked_written c.loop-end.invariant c.loop-end-test.false

pub returns : goal.returns
returns c = walked_name c.loop-end.invariant c.loop-end-test.false c.from_octets_unchecked.ensures
