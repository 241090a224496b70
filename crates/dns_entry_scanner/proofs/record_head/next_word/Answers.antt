use Rattle.std.proofs.Common.{List, ℕ, sym, subst}
use Rattle.dns_scan.proofs.Tokens.{if_err_weaker}
use Rattle.dns_entry_scanner.specs.HeadWord.{Heads}
use Rattle.dns_entry_scanner.proofs.Heads.{as_text}
use Rattle.dns_entry_scanner.proofs.record_head.next_word.Goals as goal

pub returns-clause-err : goal.returns-clause-err
returns-clause-err g c =
    if_err_weaker c.scan_ascii_str.result _ _
    (λ error none short word left takes.
    let says = as_text word takes in
    let ran = none short says.0 left says.1 in
    ran.1.1 word (subst (λ (t : List ℕ). Heads t word) (sym ran.2) says.2)) c.scan_ascii_str.ensures.err
