use Rattle.std.proofs.Common.{ℕ, List, sym, subst}
use Rattle.dns_scan.specs.StringText.{Spells}
use Rattle.dns_entry_scanner.proofs.PlainTexts.{plain_spells}
use Rattle.dns_entry_scanner.proofs.spelled_octets.octets_of.Goals as goal

pub returns-then-is_plain-clause-ok : goal.returns-then-is_plain-clause-ok
returns-then-is_plain-clause-ok c =
    let P : List ℕ → Type 0 = λ l. Spells c.args.token.text.now l in
    subst P (sym c.in_ok-from_slice.ensures.items) (plain_spells _ (sym c.if-is_plain.ensures))
