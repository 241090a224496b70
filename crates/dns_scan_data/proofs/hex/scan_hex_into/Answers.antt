use Rattle.std.proofs.Common.{◌≡◌, ◌∙◌, ℕ, List, [], false, true, refl, rules, sym, subst}
use Rattle.std.proofs.lemmas.Result.{IfErr-weaker, on_ok_weaker}
use Rattle.dns_scan.specs.Token.{Token}
use Rattle.dns_scan.proofs.SymbolsRead.{nil_by, same_names_join}
use Rattle.dns_scan_data.specs.AppendedHex.{AppendsHex}
use Rattle.dns_scan_data.proofs.AppendedHex.{TakesOn, no_word, takes_all, takes_word}
use Rattle.dns_scan_data.proofs.Appending.{gone_on}
use Rattle.dns_scan_data.proofs.hex.scan_hex_into.Goals as goal

pub loop-scanner-preserved : goal.loop-scanner-preserved
loop-scanner-preserved g c =
    let P : List Token → Type 0 = λ l. TakesOn (g.S.Scanner.tokens c.args.scanner.now) l c.args.octets.now.items c.loop-scanner.octets.items in
    let so = subst P (sym c.continues.ensures.stays) c.loop-scanner.invariant.so in
    let left = g.S.Scanner.tokens c.scan_ascii_str.new.self in
    record {
      so = takes_word {left = left} so (c.in-Ok-true.ensures.yes c.in-Ok-true.field-0-test) c.in-Ok.ensures.ok.0 c.in-Ok.ensures.ok.1;
      more = gone_on c.loop-scanner.invariant.more c.append_next_text.ensures.more;
      names =
          same_names_join _ _ _ (same_names_join _ _ _ c.loop-scanner.invariant.names c.continues.ensures.names) c.scan_ascii_str.ensures.names;
    }

pub returns-in-Err-scan_ascii_str-clause-err : goal.returns-in-Err-scan_ascii_str-clause-err
returns-in-Err-scan_ascii_str-clause-err g c = λ short.
    let P : List Token → Type 0 = λ l. TakesOn (g.S.Scanner.tokens c.args.scanner.now) l c.args.octets.now.items c.loop-scanner.octets.items in
    let so = subst P (sym c.continues.ensures.stays) c.loop-scanner.invariant.so in
    so.none (no_word (λ none. c.loop-scanner-test.ensures.some.0 refl (sym c.continues.ensures.stays ∙ none))
    (λ word left takes. let ran = c.in-Err-scan_ascii_str.ensures.err short word left takes in let bad : false ≡ true = ran.1 in cc))

pub returns-in-Ok-false-clause-ok : goal.returns-in-Ok-false-clause-ok
returns-in-Ok-false-clause-ok g c =
    let P : List Token → Type 0 = λ l. TakesOn (g.S.Scanner.tokens c.args.scanner.now) l c.args.octets.now.items c.loop-scanner.octets.items in
    let so = subst P (sym c.continues.ensures.stays) c.loop-scanner.invariant.so in
    let same = c.in-Ok-false.ensures.no (λ yes. let bad : true ≡ false = sym yes ∙ c.in-Ok-false.field-0-test in cc) in
    on_ok_weaker c.scan_joined_into.result
    (λ is.
    so.on _ _
    (subst
    (λ (l : List ℕ). AppendsHex (g.S.Scanner.tokens c.continues.new.self) (g.S.Scanner.tokens c.scan_joined_into.new.scanner) l c.scan_joined_into.new.octets.items)
    same is)) c.scan_joined_into.ensures.ok

pub returns-in-Ok-false-clause-err : goal.returns-in-Ok-false-clause-err
returns-in-Ok-false-clause-err g c =
    let P : List Token → Type 0 = λ l. TakesOn (g.S.Scanner.tokens c.args.scanner.now) l c.args.octets.now.items c.loop-scanner.octets.items in
    let so = subst P (sym c.continues.ensures.stays) c.loop-scanner.invariant.so in
    IfErr-weaker c.scan_joined_into.result _ _ (λ error none short. so.none (none short)) c.scan_joined_into.ensures.err

pub returns-in-Ok-false-clause-more : goal.returns-in-Ok-false-clause-more
returns-in-Ok-false-clause-more g c =
    gone_on (gone_on c.loop-scanner.invariant.more c.append_next_text.ensures.more) c.scan_joined_into.ensures.more

pub returns-clause-ok : goal.returns-clause-ok
returns-clause-ok g c =
    let none : g.S.Scanner.tokens c.loop-scanner.scanner ≡ [] =
    nil_by _ (λ some. let true_so = c.continues.ensures.some.1 some in search rules) in
    takes_all c.loop-scanner.invariant.so _ none (c.continues.ensures.stays ∙ none)
