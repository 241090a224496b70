use Rattle.std.proofs.Common.{◌≡◌, subst, List, ℕ}
use Rattle.std.specs.Prelude.{◌↔◌, IsTrue}
use Rattle.dns_label.specs.Name.{low}
use Rattle.dns_compress.proofs.static_table.is_same_at.Goals as goal

pub returns-in-Ok : goal.returns-in-Ok
returns-in-Ok c name next reads =
    subst (λ (n : List (List ℕ)). IsTrue c.name_eq.result ↔ (low n ≡ low c.args.suffix.now)) (c.in-Ok.ensures.ok name next reads)
    c.name_eq.ensures.labels

pub returns-in-Err : goal.returns-in-Err
returns-in-Err c name next reads = absurd (c.in-Err.ensures.err name next reads)
