use Rattle.std.proofs.lemmas.List.{take_rest}
use Rattle.dns_entry_scanner.proofs.TokenRuns.{escape_at}
use Rattle.dns_entry_scanner.proofs.token_end.escape_end.Goals as goal

pub returns-clause-found : goal.returns-clause-found
returns-clause-found c =
    escape_at c.args.text.now _ _ _ c.args.place _ _ c.requires (take_rest c.args.text.now c.args.place) c.in_ok-first.ensures.cases.0
    c.if-first-ne92.false c.in_ok-behind.ensures.found.0 c.in_ok-behind.ensures.found.1
