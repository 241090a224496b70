use Rattle.std.proofs.Common.{◌≢◌, arith, sym, ◌∙◌}
use Rattle.zone.proofs.LastRecord.{apex_is, apex_long, apex_written, no_apex}
use Rattle.zone.proofs.read.apex_of.Goals as goal

pub slice_bounds-from_octets_unchecked-end : goal.slice_bounds-from_octets_unchecked-end
slice_bounds-from_octets_unchecked-end c = apex_long c.requires.0 _ c.requires.1 c.requires.2

pub from_octets_unchecked-requires : goal.from_octets_unchecked-requires
from_octets_unchecked-requires c =
    let some : c.args.len ≢ 0 = λ none. absurd (omega arith) in
    apex_written c.requires.0 _ c.requires.1 c.requires.2 some

pub returns-then-len-eq0 : goal.returns-then-len-eq0
returns-then-len-eq0 c = λ apex begin long. no_apex apex (sym long ∙ c.if-len-eq0.true)

pub returns : goal.returns
returns c = λ apex begin long.
    let some : c.args.len ≢ 0 = λ none. absurd (omega arith) in
    apex_is apex _ begin long some _ c.from_octets_unchecked.ensures
