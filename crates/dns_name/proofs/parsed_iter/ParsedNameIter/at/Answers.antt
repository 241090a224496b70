use Rattle.std.proofs.Common.{◌≤◌, ◌<◌, ℕ, length, arith}
use Rattle.std.proofs.lemmas.List.{take_all}
use Rattle.dns_label.specs.Name.{with_root}
use Rattle.dns_label.specs.Labels.{labels_at}
use Rattle.dns_wire.proofs.Readable.{none_from_merely}
use Rattle.dns_wire.proofs.Wire.{few_labels}
use Rattle.dns_name.proofs.parsed_iter.ParsedNameIter.at.Goals as goal

at_most : (n : ℕ) → (128 < n → ⊥) → n ≤ 128
at_most n none = omega arith

pub returns : goal.returns
returns c =
    let labels = with_root (labels_at c.args.octets.now c.args.place) in
    take_all 128 labels
    (at_most (length labels) (λ many. none_from_merely c.requires (λ read. let few = few_labels _ read.reads.is_name in omega arith)))
