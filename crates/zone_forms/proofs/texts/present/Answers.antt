use Rattle.std.proofs.Common.{◌≡◌, Some, option_copied, subst}
use Rattle.std.proofs.lemmas.Result.{IfOk-weaker}
use Rattle.dns_text.specs.Layout.{layout_of}
use Rattle.dns_text.specs.declared.layout.DisplayKind.{DisplayKind}
use Rattle.dns_zonefile.specs.Entry.{Context, at_start}
use Rattle.zone_forms.specs.Presented.{IsPresentedOf}
use Rattle.zone_general.specs.Seen.{context_in}
use Rattle.zone_forms.proofs.GoneTexts.{presented_gone}
use Rattle.zone_forms.proofs.texts.present.Goals as goal

pub returns-clause-ok : goal.returns-clause-ok
returns-clause-ok c =
    let start : context_in c.in-Ok.reader ≡ at_start (option_copied c.args.origin) (Some c.args.class) = rw c.in-Ok.is at c.new.ensures in
    IfOk-weaker c.rewrite.result _ _
    (λ new told. subst (λ (kind : DisplayKind). IsPresentedOf (layout_of kind) (at_start (option_copied c.args.origin) (Some c.args.class)) c.args.text.now new.items)
    c.new-2.ensures
    (subst (λ (context : Context). IsPresentedOf (layout_of c.new-2.result.kind) context c.args.text.now new.items) start (presented_gone told.2)))
    c.rewrite.ensures.ok
