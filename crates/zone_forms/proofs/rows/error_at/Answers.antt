use Rattle.std.proofs.Common.{◌≡◌, ◌+◌, ap, arith}
use Rattle.dns_entry_scanner.specs.Lines.{line_at}
use Rattle.zone_forms.specs.declared.error.FormError.TheVariants.{Line}
use Rattle.zone_forms.proofs.rows.error_at.Goals as goal

pub returns : goal.returns
returns c = λ few.
    let counted = c.feeds_at.ensures (omega (arith, few)) in
    let same : c.saturating_add.result ≡ c.args.feeds + line_at c.args.text.now c.args.place = omega (arith, few, counted) in
    ap Line same
