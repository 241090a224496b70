use Rattle.std.proofs.Common.{rules, []}
use Rattle.dns_name_tests.proofs.text.rows.BareZonefileFmt.fmt.Goals as goal

pub returns : goal.returns
returns g c = let filled = c.in_ok-block.ensures [] (λ before behind result met. search rules) in search rules
