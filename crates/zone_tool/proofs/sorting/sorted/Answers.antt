use Rattle.std.specs.Prelude.{filter, not}
use Rattle.dns_text.specs.Layout.{layout_of}
use Rattle.zone_tool.specs.Sorted.{is_soa}
use Rattle.zone_tool.proofs.SortedTexts.{printed_from_start}
use Rattle.zone_tool.proofs.sorting.sorted.Goals as goal

pub returns : goal.returns
returns c =
    let forms = c.in_ok-forms.forms in
    rw c.into_bytes.ensures.value
    (record {
      forms = forms;
      are = rw c.records_of.ensures.records at c.in_ok-forms.ensures.forms;
      printed = printed_from_start (layout_of c.args.kind) (filter is_soa forms) (filter (λ r. not (is_soa r)) forms)
          _ _ _ c.new-text.ensures.bytes c.in_ok-print_those.ensures c.in_ok-print_those-2.ensures;
    })
