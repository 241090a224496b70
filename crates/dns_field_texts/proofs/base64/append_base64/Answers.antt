use Rattle.std.proofs.Common.{◌++◌, ◌∙◌, List, ℕ, ap, append_assoc}
use Rattle.std.proofs.lemmas.Result.{IfErr-weaker, on_ok_weaker}
use Rattle.dns_field_texts.proofs.AppendedBase64.{groups_leave}
use Rattle.dns_field_texts.proofs.base64.append_base64.Goals as goal

pub returns-in-Ok-clause-ok : goal.returns-in-Ok-clause-ok
returns-in-Ok-clause-ok c =
    let so_far = c.in-Ok.ensures.ok in
    on_ok_weaker c.append_last.result
    (λ last. (
      so_far.octets ++ last.0,
      (groups_leave so_far).on last.0 last.1,
      last.2 ∙ ap (λ (l : List ℕ). l ++ last.0) so_far.behind ∙ append_assoc c.args.octets.now.items so_far.octets last.0,
    )) c.append_last.ensures.ok

pub returns-in-Ok-clause-err : goal.returns-in-Ok-clause-err
returns-in-Ok-clause-err c =
    IfErr-weaker c.append_last.result _ _ (λ error none itself. (groups_leave c.in-Ok.ensures.ok).none (none itself)) c.append_last.ensures.err
