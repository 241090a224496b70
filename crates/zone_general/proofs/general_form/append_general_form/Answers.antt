use Rattle.std.proofs.Common.{◌≡◌, ◌++◌, ◌∷◌, ◌∙◌, [], length, decimal, ap, sym, arith, rules}
use Rattle.std.proofs.lemmas.Grind.{common_steps}
use Rattle.dns_scan.specs.Encodings.{encoded_16}
use Rattle.dns_scan.proofs.HexWords.{octets_by_place}
use Rattle.zone_general.proofs.GeneralForm.{form_some, joined, on_ok}
use Rattle.zone_general.proofs.general_form.append_general_form.Goals as goal

pub returns-clause-text : goal.returns-clause-text
returns-clause-text c =
    let octets = c.args.octets.now in
    let text = c.args.text.now.items in
    let are = octets_by_place octets (λ i. let fits = c.type_inv.octets i in omega (arith, fits)) in
    let some : octets ≡ [] → ⊥ = λ none. grind (arith, common_steps) in
    let mark = c.in_ok-extend_from_slice.ensures.items in
    let number : c.as_bytes.result.now ≡ decimal (length octets) = search rules in
    let before = c.in_ok-push.ensures.items ∙ ap (λ l. l ++ 32 ∷ []) (c.in_ok-extend_from_slice-2.ensures.items ∙ (λ i. mark i ++ number i)) in
    on_ok c.append.result
    (λ is. is ∙ ap (λ l. l ++ encoded_16 octets) before ∙ joined text (92 ∷ 35 ∷ 32 ∷ []) (decimal (length octets)) (encoded_16 octets)
    ∙ ap (λ l. text ++ l) (sym (form_some octets some are)))
    c.append.ensures.ok

pub returns-clause-octets : goal.returns-clause-octets
returns-clause-octets c = octets_by_place c.args.octets.now (λ i. let fits = c.type_inv.octets i in omega (arith, fits))
