use Rattle.std.proofs.Common.{◌≡◌, ◌-◌, length}
use Rattle.zone_general.specs.Seen.{context_in}
use Rattle.zone_forms.specs.Going.{GoesUpTo}
use Rattle.zone_forms.proofs.rows.append_rows.Given as goal

abbrev pub invariant-loop-next : goal.invariant-loop-next
invariant-loop-next g l = record {
  going : GoesUpTo (g.F.TextForm.goes (g.F.TextForm.layout l.fn.form)) (context_in l.fn.reader) l.text l.place (context_in l.reader) l.fn.out.items l.out.items;
  layout : g.F.TextForm.layout l.form ≡ g.F.TextForm.layout l.fn.form;
}

abbrev pub decreases-loop-next : goal.decreases-loop-next
decreases-loop-next g l = length l.text - l.place
