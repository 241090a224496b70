use Rattle.std.proofs.Common.{◌≡◌, ℕ, ◌+◌, ◌*◌, length, ap, arith}
use Rattle.dns_builder.proofs.FreeHeader.{free_within}
use Rattle.dns_builder.proofs.draft.Draft.count_item.Goals as goal

pub patch-requires-clause-free : goal.patch-requires-clause-free
patch-requires-clause-free g c =
    let two : length c.to_be_bytes.result ≡ 2 = ap (length {A = ℕ}) c.to_be_bytes.ensures in
    free_within 0 12 (4 + 2 * c.args.number) (4 + 2 * c.args.number + length c.to_be_bytes.result)
    (g.Target.Remembers.known c.args.self.now.opt.target) c.args.self.now.free (omega arith) (omega arith)
