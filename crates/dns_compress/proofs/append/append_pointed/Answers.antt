use Rattle.std.proofs.Common.{◌≡◌, ◌+◌, ◌++◌, ℕ, List, length, take, ap, subst}
use Rattle.dns_compress.proofs.Pointed.{pointed_over}
use Rattle.dns_compress.proofs.append.append_pointed.Goals as goal

pub returns-clause-ok : goal.returns-clause-ok
returns-clause-ok g c =
    let old : List ℕ = g.Target.Octets.list c.args.target.now in
    subst (λ (l : List ℕ). g.Target.Octets.list c.patch.new.self ≡ old ++ (take c.args.front c.args.octets.now ++ l)) c.pointer.ensures
    (pointed_over old c.args.octets.now (g.Target.Octets.list c.append_slice.new.self) (g.Target.Octets.list c.patch.new.self) c.pointer.result
    (length c.octets-len.result.now + c.args.front) c.args.front c.in_ok-append_slice.ensures.ok
    (ap (λ (l : List ℕ). length l + c.args.front) c.octets-len.ensures)
    (ap (length {A = ℕ}) c.pointer.ensures) c.patch.ensures.octets)
