use Rattle.std.proofs.Common.{◌≡◌, ◌-◌, ◌++◌, length}
use Rattle.std.specs.Prelude.{replicate}
use Rattle.dns_builder.proofs.draft.Draft.go_on.Given as goal

abbrev pub invariant-loop : goal.invariant-loop
invariant-loop g l = record {
  target : l.self.opt.target ≡ l.initial.self.opt.target;
  limit : l.self.limit ≡ l.initial.self.limit;
  starts : l.self.starts.items ≡ l.initial.self.starts.items ++ replicate (l.counter - length l.initial.self.starts.items) l.len;
}
