use Rattle.std.proofs.Common.{◌≡◌, ◌∙◌, List, [], refl, ap, sym, subst, rules}
use Rattle.dns_scan.specs.Token.{Token}
use Rattle.dns_scan.proofs.SymbolsRead.{nil_by, same_names_join}
use Rattle.dns_field_texts.specs.TypeWords.{type_word_read}
use Rattle.dns_field_texts.proofs.ScannedTypes.{Scanned, scan_more, no_type, scanned_all}
use Rattle.dns_field_texts.proofs.bitmap.scan.scan_types_into.Goals as goal

pub returns-in-Err-clause-err : goal.returns-in-Err-clause-err
returns-in-Err-clause-err g c = λ short types spelled.
    let before = g.S.Scanner.tokens c.args.scanner.now in
    let left = g.S.Scanner.tokens c.continues.new.self in
    let P : List Token → Type 0 = λ l. Scanned before l c.loop-scanner.set in
    no_type before left c.loop-scanner.set (subst P (sym c.continues.ensures.stays) c.loop-scanner.invariant.scanned)
    (λ text rest takes. let ran = c.in-Err.ensures.err short text rest takes in sym (ran.1 ∙ ap type_word_read ran.2))
    (λ none. c.loop-scanner-test.ensures.some.0 refl (sym c.continues.ensures.stays ∙ none))
    types spelled

pub loop-scanner-preserved : goal.loop-scanner-preserved
loop-scanner-preserved g c =
    let before = g.S.Scanner.tokens c.args.scanner.now in
    let left = g.S.Scanner.tokens c.continues.new.self in
    let P : List Token → Type 0 = λ l. Scanned before l c.loop-scanner.set in
    let read = c.in-Ok.ensures.ok in
    record {
      scanned =
          scan_more before left c.loop-scanner.set (subst P (sym c.continues.ensures.stays) c.loop-scanner.invariant.scanned)
          read.0 c.in-Ok.number (g.S.Scanner.tokens c.scan_ascii_str.new.self) c.insert.new.self read.1
          (sym (read.2.1 ∙ ap type_word_read read.2.2)) c.in-Ok-insert.ensures.ok;
      names =
          same_names_join _ _ _ (same_names_join _ _ _ c.loop-scanner.invariant.names c.continues.ensures.names) c.scan_ascii_str.ensures.names;
    }

pub returns-in-Ok-append_to-clause-ok : goal.returns-in-Ok-append_to-clause-ok
returns-in-Ok-append_to-clause-ok g c =
    let before = g.S.Scanner.tokens c.args.scanner.now in
    let left = g.S.Scanner.tokens c.continues.new.self in
    let P : List Token → Type 0 = λ l. Scanned before l c.loop-scanner.set in
    let none : g.S.Scanner.tokens c.loop-scanner.scanner ≡ [] =
    nil_by _ (λ some. let true_so = c.continues.ensures.some.1 some in search rules) in
    scanned_all before left c.loop-scanner.set (subst P (sym c.continues.ensures.stays) c.loop-scanner.invariant.scanned)
    c.args.octets.now.items c.append_to.new.octets.items (c.continues.ensures.stays ∙ none) c.in-Ok-append_to.ensures.ok
