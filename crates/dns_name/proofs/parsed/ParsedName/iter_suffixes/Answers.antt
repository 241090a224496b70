use Rattle.std.proofs.Common.{List, ℕ, length, ap, arith, [], ◌∷◌, length-append}
use Rattle.dns_wire.proofs.Readable.{read-few}
use Rattle.dns_flat.proofs.Suffixes.{length-suffixes}
use Rattle.dns_label.specs.Labels.{labels_at}
use Rattle.dns_name.proofs.parsed.ParsedName.iter_suffixes.Goals as goal

pub returns-clause-few : goal.returns-clause-few
returns-clause-few g c =
    let few = read-few _ _ c.args.self.now.reads in
    let name = labels_at (g.Octs.Octets.list c.args.self.now.octets) c.args.self.now.start in
    let is = ap (length {A = List ℕ}) c.ref_octets.ensures in
    omega (arith, length-suffixes (labels_at c.ref_octets.result.octets.now c.ref_octets.result.start), length-append name ([] ∷ []))
