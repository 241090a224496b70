use Rattle.std.proofs.Common.{◌≡◌, ◌∙◌, List, false, true, refl, ap, sym, subst}
use Rattle.std.proofs.lemmas.Result.{IfErr-weaker, on_ok_weaker}
use Rattle.dns_scan.specs.Token.{Token}
use Rattle.dns_scan.proofs.SymbolsRead.{same_names_join}
use Rattle.dns_field_texts.specs.Appended.{GoesOn}
use Rattle.dns_field_texts.proofs.AppendedBase64.{TakesOn, goes_join, goes_same, no_word, padded_last, padded_none, takes_word}
use Rattle.dns_field_texts.proofs.base64.scan_base64_into.Goals as goal
use Rattle.dns_field_texts.proofs.base64.scan_base64_into.Goals.{else-loop-scanner-test, then-loop-scanner-test+in-Ok-Other}

pub loop-scanner-preserved : goal.loop-scanner-preserved
loop-scanner-preserved g c =
    let P : List Token → Type 0 = λ l. TakesOn (g.S.Scanner.tokens c.args.scanner.now) l c.args.octets.now.items c.loop-scanner.octets.items in
    let so = subst P (sym c.continues.ensures.stays) c.loop-scanner.invariant.so in
    let left = g.S.Scanner.tokens c.scan_ascii_str.new.self in
    record {
      so = takes_word {left = left} so (c.in-Ok-Groups.ensures.groups c.in-Ok-Groups.field-0-is) c.in-Ok.ensures.ok.0 c.in-Ok.ensures.ok.1;
      more = goes_join c.loop-scanner.invariant.more c.append_next_text.ensures.more;
      names =
          same_names_join _ _ _ (same_names_join _ _ _ c.loop-scanner.invariant.names c.continues.ensures.names) c.scan_ascii_str.ensures.names;
    }

pub returns-in-Err-scan_ascii_str-clause-err : goal.returns-in-Err-scan_ascii_str-clause-err
returns-in-Err-scan_ascii_str-clause-err g c = λ short.
    let P : List Token → Type 0 = λ l. TakesOn (g.S.Scanner.tokens c.args.scanner.now) l c.args.octets.now.items c.loop-scanner.octets.items in
    let so = subst P (sym c.continues.ensures.stays) c.loop-scanner.invariant.so in
    so.none (no_word (λ none. c.loop-scanner-test.ensures.some.0 refl (sym c.continues.ensures.stays ∙ none))
    (λ word left takes. let ran = c.in-Err-scan_ascii_str.ensures.err short word left takes in let bad : false ≡ true = ran.1 in cc))

pub returns-clause-err : goal.returns-clause-err
returns-clause-err g c =
    let P : List Token → Type 0 = λ l. TakesOn (g.S.Scanner.tokens c.args.scanner.now) l c.args.octets.now.items c.loop-scanner.octets.items in
    let so = subst P (sym c.continues.ensures.stays) c.loop-scanner.invariant.so in
    IfErr-weaker c.scan_joined_into.result _ _ (λ error none short. so.none (none short)) c.scan_joined_into.ensures.err

pub returns-clause-more : goal.returns-clause-more
returns-clause-more g c =
    let before : GoesOn c.args.octets.now.items c.loop-scanner-test.octets.items = elim c.loop-scanner-test.branch [
      | else-loop-scanner-test w ↦ goes_same c.loop-scanner.invariant.more (ap (λ v. v.items) w.octets-is)
      | then-loop-scanner-test+in-Ok-Other w ↦
          goes_same (goes_join c.loop-scanner.invariant.more w.append_next_text.ensures.more) (ap (λ v. v.items) w.octets-is)
    ] in
    goes_join before c.scan_joined_into.ensures.more

pub returns-in-Ok-Padded-clause-ok : goal.returns-in-Ok-Padded-clause-ok
returns-in-Ok-Padded-clause-ok g c =
    let P : List Token → Type 0 = λ l. TakesOn (g.S.Scanner.tokens c.args.scanner.now) l c.args.octets.now.items c.loop-scanner.octets.items in
    let so = subst P (sym c.continues.ensures.stays) c.loop-scanner.invariant.so in
    on_ok_weaker c.scan_last_word.result
    (λ last. padded_last so (c.in-Ok-Padded.ensures.padded c.in-Ok-Padded.field-0-is) last.0 _ last.1) c.scan_last_word.ensures.ok

pub returns-in-Ok-Padded-clause-err : goal.returns-in-Ok-Padded-clause-err
returns-in-Ok-Padded-clause-err g c =
    let P : List Token → Type 0 = λ l. TakesOn (g.S.Scanner.tokens c.args.scanner.now) l c.args.octets.now.items c.loop-scanner.octets.items in
    let so = subst P (sym c.continues.ensures.stays) c.loop-scanner.invariant.so in
    IfErr-weaker c.scan_last_word.result _ _
    (λ error none short. padded_none so (c.in-Ok-Padded.ensures.padded c.in-Ok-Padded.field-0-is) (none short)) c.scan_last_word.ensures.err
