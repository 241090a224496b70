use Rattle.std.proofs.Common.{drop, ◌∙◌, ap, add-one}
use Rattle.dns_scan.proofs.Tokens.{left, one_less}
use Rattle.dns_scan.proofs.scan.iter_scanner.IterScannerScanner.skip_token.Goals as goal

pub returns-then-self-len-clause-taken : goal.returns-then-self-len-clause-taken
returns-then-self-len-clause-taken c =
    ap (left c.self.inside.texts.items) (add-one c.self.inside.place)
    ∙ one_less c.self.inside.texts.items c.self.inside.place ∙ ap (drop 1) c.self.view_is
