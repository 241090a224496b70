use Rattle.std.proofs.Common.{◌≡◌, true, false, ap, ◌∙◌, sym, arith}
use Rattle.std.proofs.Math.Bool.{beq}
use Rattle.std.specs.Prelude.{string_bytes}
use Rattle.std.proofs.lemmas.List.{take_all}
use Rattle.dns_text.specs.Layout.{layout_of}
use Rattle.zone_records.specs.Typed.{HasLawfulData}
use Rattle.zone_records.proofs.Indexed.{all_at}
use Rattle.zone_tool.specs.Sorted.{is_one, is_soa}
use Rattle.zone_tool.proofs.SortedTexts.{adds_next, adds_nothing, adds_one, one_of}
use Rattle.zone_tool.proofs.sorting.print_those.Goals as goal
use Rattle.zone_tool.proofs.sorting.print_those.Goals.{then-is_soa-are_soas+in_ok-print_record, else-is_soa-are_soas}

pub loop-index-init : goal.loop-index-init
loop-index-init c = adds_nothing (layout_of c.args.kind) (string_bytes c.args.text.now)

pub print_record-requires : goal.print_record-requires
print_record-requires c =
    all_at HasLawfulData c.args.records.now c.loop-index.index c.record_at-record.result c.record_at-record.ensures c.requires

pub loop-index-preserved : goal.loop-index-preserved
loop-index-preserved c =
    let layout = layout_of c.args.kind in
    let r = c.record_at-record.result in
    let are_soas = c.args.are_soas in
    let is : is_one are_soas r ≡ beq c.is_soa.result are_soas = one_of (is_soa r) are_soas ∙ ap (λ b. beq b are_soas) (sym c.is_soa.ensures) in
    let next = adds_next layout (is_one are_soas) c.args.records.now c.loop-index.index r in
    elim c.if-is_soa-are_soas.branch [
      | then-is_soa-are_soas+in_ok-print_record w ↦
          rw w.text-is
          (next true _ _ _ c.record_at-record.ensures (is ∙ w.if-is_soa-are_soas.true) c.loop-index.invariant (adds_one layout r _ _ w.in_ok-print_record.ensures))
      | else-is_soa-are_soas w ↦
          rw w.text-is (next false _ _ _ c.record_at-record.ensures (is ∙ w.if-is_soa-are_soas.false) c.loop-index.invariant (adds_nothing layout _))
    ]

pub returns : goal.returns
returns c = rw (take_all c.loop-index.index c.args.records.now (omega arith)) at c.loop-index.invariant
