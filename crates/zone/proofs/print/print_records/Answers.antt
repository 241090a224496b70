use Rattle.std.proofs.Common.{ℕ, Vec, Global, sym, subst, arith}
use Rattle.std.specs.Prelude.{string_bytes}
use Rattle.dns_text.specs.Layout.{layout_of}
use Rattle.zone_records.specs.Typed.{HasLawfulData}
use Rattle.zone_records.proofs.Indexed.{all_at}
use Rattle.zone.specs.Printed.{IsPrinted}
use Rattle.zone.proofs.Lines.{printed_all, printed_more, printed_none}
use Rattle.zone.proofs.print.print_records.Goals as goal

pub loop-index-init : goal.loop-index-init
loop-index-init c =
    printed_none (layout_of c.args.kind) c.args.records.now (string_bytes c.new-text.result) c.new-text.ensures.bytes

pub print_record-requires : goal.print_record-requires
print_record-requires c =
    all_at HasLawfulData c.args.records.now c.loop-index.index c.record_at-record.result c.record_at-record.ensures c.requires

pub loop-index-preserved : goal.loop-index-preserved
loop-index-preserved c =
    printed_more (layout_of c.args.kind) c.args.records.now c.loop-index.index c.record_at-record.result _ _ c.record_at-record.ensures
    c.loop-index.invariant c.in_ok-print_record.ensures

pub returns : goal.returns
returns c =
    let P : Vec ℕ Global → Type 0 = λ v. IsPrinted (layout_of c.args.kind) c.args.records.now v.items in
    subst P (sym c.into_bytes.ensures.value)
    (printed_all (layout_of c.args.kind) c.args.records.now c.loop-index.index (string_bytes c.loop-index.text) (omega arith) c.loop-index.invariant)
