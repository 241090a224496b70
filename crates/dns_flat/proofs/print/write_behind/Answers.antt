use Rattle.std.proofs.Common.{rules, [], ◌∷◌, ◌++◌, sym, ◌∙◌, ap, append_assoc}
use Rattle.std.proofs.Output.{has_written_append}
use Rattle.dns_label.specs.Label.{label_octets}
use Rattle.dns_label.specs.Printed.{printed_label}
use Rattle.dns_flat.specs.PrintedLabels.{printed_behind}
use Rattle.dns_flat.proofs.print.write_behind.Goals as goal

pub loop-label-init : goal.loop-label-init
loop-label-init g c plain = ([], ap printed_behind (sym c.into_iter-label-iterator.ensures.into_iter_gives), (let here = plain in search rules))

pub loop-label-preserved : goal.loop-label-preserved
loop-label-preserved g c plain =
    let at = c.loop-label.invariant plain in
    let written = 46 ∷ printed_label (label_octets c.in-Some.label) in (
      at.0 ++ written,
      at.1 ∙ ap (λ l. at.0 ++ printed_behind l) c.in-Some.ensures.steps ∙ sym (append_assoc at.0 written (printed_behind c.next.new.self)),
      has_written_append _ _ _ _ _ _ at.2 (let here = at.2 in search rules),
    )
