use Rattle.std.proofs.Common.{◌≡◌, ℕ, ◌+◌, length, ap, arith}
use Rattle.dns_builder.proofs.FreeHeader.{free_within}
use Rattle.dns_builder.proofs.draft.Draft.set_header.Goals as goal

pub patch-requires-clause-free : goal.patch-requires-clause-free
patch-requires-clause-free g c =
    let four : length c.as_slice.result.now ≡ length c.args.header = ap (length {A = ℕ}) c.as_slice.ensures.octets in
    free_within 0 12 0 (0 + length c.as_slice.result.now) (g.Target.Remembers.known c.args.self.now.opt.target) c.args.self.now.free
    (omega arith) (omega (arith, c.as_slice.ensures.four))
