use Rattle.std.proofs.Common.{◌++◌, ap, ◌∙◌, arith}
use Rattle.std.specs.Prelude.{string_bytes}
use Rattle.std.proofs.lemmas.Result.{on_ok_weaker}
use Rattle.zone_canonical.specs.declared.change_list.Change.TheVariants.{Added, Removed}
use Rattle.zone_tool.proofs.ChangeTexts.{adds_line}
use Rattle.zone_tool.proofs.differences.print_change.Goals as goal

pub print_record-requires : goal.print_record-requires
print_record-requires c = (rw c.in-Removed.is at c.requires).data_is

pub print_record-requires-in-Added : goal.print_record-requires-in-Added
print_record-requires-in-Added c = (rw c.in-Added.is at c.requires).data_is

pub returns-in_ok-push-in-Removed : goal.returns-in_ok-push-in-Removed
returns-in_ok-push-in-Removed c =
    let signed = c.in_ok-push-in-Removed.ensures.bytes ∙ ap (λ l. string_bytes c.args.text.now ++ l) (c.in_ok-push-in-Removed.ensures.ascii (omega arith)) in
    on_ok_weaker c.print_record.result (λ adds. rw c.in-Removed.is (adds_line (Removed c.in-Removed.record) _ _ _ signed adds)) c.print_record.ensures

pub returns-in_ok-push-in-Added : goal.returns-in_ok-push-in-Added
returns-in_ok-push-in-Added c =
    let signed = c.in_ok-push-in-Added.ensures.bytes ∙ ap (λ l. string_bytes c.args.text.now ++ l) (c.in_ok-push-in-Added.ensures.ascii (omega arith)) in
    on_ok_weaker c.print_record-in-Added.result (λ adds. rw c.in-Added.is (adds_line (Added c.in-Added.record) _ _ _ signed adds)) c.print_record-in-Added.ensures
