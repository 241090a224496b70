use Rattle.std.proofs.Common.{◌∙◌, arith}
use Rattle.dns_field_texts.proofs.TypesLeft.{none_there}
use Rattle.dns_field_texts.proofs.bitmap.iter.next_one.Goals as goal

pub returns-clause-none : goal.returns-clause-none
returns-clause-none c = λ first. c.loop-at.invariant first ∙ none_there first c.args.window.now c.loop-at.at (omega arith)
