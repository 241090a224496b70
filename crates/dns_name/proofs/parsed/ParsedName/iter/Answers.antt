use Rattle.std.proofs.Common.{List, ℕ, length, ap, ◌∙◌, arith}
use Rattle.dns_label.specs.Name.{with_root}
use Rattle.dns_label.specs.Labels.{labels_at}
use Rattle.dns_wire.proofs.Readable.{read-few}
use Rattle.dns_name.proofs.parsed.ParsedName.iter.Goals as goal

pub returns-clause-few : goal.returns-clause-few
returns-clause-few g c =
    let few = read-few _ _ c.args.self.now.reads in
    let is = ap (length {A = List ℕ}) (c.at.ensures ∙ ap (λ o. with_root (labels_at o c.args.self.now.start)) c.octets.ensures) in
    omega arith
