use Rattle.std.proofs.Common.{map, ap}
use Rattle.dns_scan.specs.Token.{unquoted}
use Rattle.dns_scan.proofs.scan.iter_scanner.IterScanner.new.Goals as goal

pub returns : goal.returns
returns g c = let h = c.in_ok-collect.ensures.runs tt in (h.0, h.1, h.2, ap (map (λ text. unquoted text.now)) h.3.0)
