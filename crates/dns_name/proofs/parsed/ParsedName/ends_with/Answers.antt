use Rattle.std.proofs.Common.{sym, subst, List, ℕ}
use Rattle.dns_label.specs.Name.{low, with_root}
use Rattle.dns_name.specs.ParsedName.{labels_in}
use Rattle.dns_wire.specs.Suffix.{EndsWith}
use Rattle.dns_wire.proofs.Case.{rooted_on, rooted_back}
use Rattle.dns_name.proofs.parsed.ParsedName.ends_with.Goals as goal

pub returns : goal.returns
returns g c =
    let is = g.met.N.ToName.is_absolute c.args.base.now in
    let own = labels_in g.Octs.Octets.list c.args.self.now in
    let P : List (List ℕ) → Type 0 = λ n. EndsWith (low (with_root own)) (low n) in (
      λ yes. rooted_on own (g.N.ToName.name c.args.base.now) (subst P is (c.ends_with.ensures.0 yes)),
      λ ends. c.ends_with.ensures.1 (subst P (sym is) (rooted_back own (g.N.ToName.name c.args.base.now) ends)),
    )
