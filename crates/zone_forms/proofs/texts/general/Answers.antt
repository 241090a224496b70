use Rattle.std.proofs.Common.{subst}
use Rattle.std.proofs.lemmas.Result.{IfOk-weaker}
use Rattle.dns_zonefile.specs.Entry.{Context}
use Rattle.zone_forms.specs.Presented.{IsGeneralOf}
use Rattle.zone_forms.proofs.GoneTexts.{general_gone}
use Rattle.zone_forms.proofs.texts.general.Goals as goal

pub returns-clause-ok : goal.returns-clause-ok
returns-clause-ok c =
    IfOk-weaker c.rewrite.result _ _
    (λ new told. subst (λ (start : Context). IsGeneralOf start c.args.text.now new.items) c.in-Ok.ensures (general_gone told.2))
    c.rewrite.ensures.ok
