use Rattle.std.proofs.Common.{◌≡◌, ◌∙◌, true, false, length, rules, sym}
use Rattle.dns_field_texts.proofs.AppendedBase64.{goes_back, goes_same, padded_behind, token_padded}
use Rattle.dns_field_texts.proofs.base64.append_next_text.Goals as goal

pub returns-in-Ok-true-clause-padded : goal.returns-in-Ok-true-clause-padded
returns-in-Ok-true-clause-padded g c = λ is.
    token_padded c.in-Ok.ensures.ok.1 (padded_behind c.in-Ok-append_groups.ensures.ok (c.in-Ok-true.ensures.yes c.in-Ok-true.field-0-test))

pub returns-in-Ok-false-clause-more : goal.returns-in-Ok-false-clause-more
returns-in-Ok-false-clause-more g c =
    let size : c.len-before.result ≡ length c.args.octets.now.items = search rules in
    let same = c.in-Ok-false.ensures.no (λ yes. let bad : true ≡ false = sym yes ∙ c.in-Ok-false.field-0-test in cc) in
    goes_back (goes_same c.in-Ok-append_groups.ensures.more same) size c.truncate.ensures.items
