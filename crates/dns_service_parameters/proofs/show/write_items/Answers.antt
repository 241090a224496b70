use Rattle.std.proofs.Common.{◌≡◌, ◌∷◌, [], ◌++◌, sym, ◌∙◌, ap, subst, append_assoc, append-nil, rules}
use Rattle.std.specs.Fmt.{HasWritten}
use Rattle.std.proofs.Output.{has_written_append}
use Rattle.dns_scan.specs.StringText.{unquoted_text}
use Rattle.dns_service_parameters.specs.ServiceShown.{shown_items}
use Rattle.dns_service_parameters.proofs.ServiceShown.{behind_text, first_shown, item_shown, items_none, next_shown, none_shown}
use Rattle.dns_service_parameters.proofs.show.write_items.Goals as goal

pub returns-in_default : goal.returns-in_default
returns-in_default g c = λ plain ok.
    let none = none_shown c.args.form c.args.octets.now c.in_default.ensures.none in
    subst (λ l. HasWritten g.W.Write.write_str_gives c.args.f.now l c.args.f.now) (sym none) (search rules)

pub loop-item-init : goal.loop-item-init
loop-item-init g c = λ plain. (
  item_shown c.args.form c.in-Some.first.now,
  search rules,
  first_shown c.args.form c.args.octets.now c.in-Some.first.now c.in-Some.rest.now c.in-Some.ensures.some.0,
)

pub loop-item-preserved : goal.loop-item-preserved
loop-item-preserved g c = λ plain.
    let so_far = c.loop-item.invariant plain in
    let form = c.args.form in
    let item = c.in-Some-split_item.item.now in
    let behind = c.in-Some-split_item.behind.now in
    let next = next_shown form c.loop-item.rest.now item behind c.in-Some-split_item.ensures.some.0 in
    let up_to : HasWritten g.W.Write.write_str_gives c.args.f.now (so_far.0 ++ 44 ∷ []) c.write_str.new.self = has_written_append _ _ _ _ _ _ so_far.1 (search rules) in (
      (so_far.0 ++ 44 ∷ []) ++ item_shown form item,
      has_written_append _ _ _ _ _ _ up_to (search rules),
      append_assoc (so_far.0 ++ 44 ∷ []) _ _ ∙ append_assoc so_far.0 (44 ∷ []) _ ∙ ap (λ l. so_far.0 ++ l) (sym next) ∙ so_far.2,
    )

pub returns : goal.returns
returns g c = λ plain ok.
    let so_far = c.loop-item.invariant plain in
    let form = c.args.form in
    let none = ap (behind_text form) (items_none form c.loop-item.rest.now c.in_default-split_item.ensures.none) in
    let all : so_far.0 ≡ unquoted_text (shown_items form c.args.octets.now) =
    sym (append-nil so_far.0) ∙ ap (λ l. so_far.0 ++ l) (sym none) ∙ so_far.2 in
    subst (λ l. HasWritten g.W.Write.write_str_gives c.args.f.now l c.loop-item.f) all so_far.1
