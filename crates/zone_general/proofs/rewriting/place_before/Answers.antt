use Rattle.std.proofs.Common.{◌≡◌, ◌-◌, ◌∙◌, suc, ap, arith}
use Rattle.zone_general.specs.WrittenPart.{place_at}
use Rattle.zone_general.proofs.RowGoing.{place_next}
use Rattle.zone_general.proofs.rewriting.place_before.Goals as goal

pub returns : goal.returns
returns c =
    let row = c.args.row in
    let same : suc (c.args.index - 1) ≡ c.args.index = omega arith in
    c.end_place.ensures ∙ place_next row.text.now row.place row.spans.now (c.args.index - 1) _ (omega (arith, c.requires))
    ∙ ap (place_at row.text.now row.place row.spans.now) same
