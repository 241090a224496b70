use Rattle.std.proofs.Common.{arith}
use Rattle.dns_builder.specs.Seen.{draft_in}
use Rattle.dns_builder.proofs.Going.{goes_back, goes_on}
use Rattle.dns_builder.proofs.draft.Draft.go_to.Goals as goal

pub returns-then-count-len-clause-built : goal.returns-then-count-len-clause-built
returns-then-count-len-clause-built g c =
    goes_back c.args.count (draft_in c.go_back.new.self) c.go_back.ensures.draft (omega arith) (omega arith)

pub returns-else-count-len-clause-built : goal.returns-else-count-len-clause-built
returns-else-count-len-clause-built g c = goes_on c.args.count (draft_in c.go_on.new.self) c.go_on.ensures.draft (omega arith)
