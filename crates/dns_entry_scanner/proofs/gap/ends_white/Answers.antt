use Rattle.std.proofs.Common.{◌∙◌}
use Rattle.dns_entry_scanner.proofs.Gaps.{ends_white_last, ends_white_none}
use Rattle.dns_entry_scanner.proofs.gap.ends_white.Goals as goal

pub returns-in_default : goal.returns-in_default
returns-in_default c = ends_white_none _ c.in_default.ensures.cases

pub returns : goal.returns
returns c = c.is_white.ensures ∙ ends_white_last _ _ _ c.in-Some.ensures.cases.0
