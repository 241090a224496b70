use Rattle.std.proofs.Common.{◌≡◌, true, false, take, ap, ◌∙◌, sym, arith, append-nil}
use Rattle.std.proofs.lemmas.List.{take_all}
use Rattle.zone_records.proofs.Indexed.{all_at}
use Rattle.zone_canonical.specs.Canonical.{HasCanonicalForm}
use Rattle.zone_tool.specs.Selected.{is_compared, selected_of}
use Rattle.zone_tool.proofs.ComparedRecords.{selected_has, selected_next}
use Rattle.zone_tool.proofs.selection.selected.Goals as goal
use Rattle.zone_tool.proofs.selection.selected.Goals.{then-has+in_ok-push, else-has}

pub push-requires : goal.push-requires
push-requires c =
    all_at HasCanonicalForm c.args.records.now c.loop-index.index c.record_at-record.result c.record_at-record.ensures c.requires

pub loop-index-preserved : goal.loop-index-preserved
loop-index-preserved c =
    let selection = c.args.selection.now in
    let r = c.record_at-record.result in
    let next = selected_next selection c.args.records.now c.loop-index.index r in
    let has : is_compared selection r.rtype ≡ c.has.result = ap (is_compared selection) (sym c.rtype.ensures) ∙ sym c.has.ensures in
    elim c.if-has.branch [
      | then-has+in_ok-push w ↦
          rw (w.writer-is, next true c.record_at-record.ensures (has ∙ w.if-has.true)) (w.in_ok-push.ensures _ c.loop-index.invariant)
      | else-has w ↦ rw (w.writer-is, next false c.record_at-record.ensures (has ∙ w.if-has.false), append-nil) c.loop-index.invariant
    ]

pub into_list-requires : goal.into_list-requires
into_list-requires c = (selected_of c.args.selection.now (take c.loop-index.index c.args.records.now), c.loop-index.invariant)

pub returns : goal.returns
returns c =
    let selection = c.args.selection.now in
    let is = c.into_list.ensures _ c.loop-index.invariant ∙ ap (selected_of selection) (take_all c.loop-index.index c.args.records.now (omega arith)) in
    record { selected = is; lawful = rw is (selected_has selection c.args.records.now c.requires) }
