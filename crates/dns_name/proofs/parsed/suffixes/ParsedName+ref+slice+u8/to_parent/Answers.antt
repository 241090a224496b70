use Rattle.dns_flat.proofs.Suffixes.{suffixes-behind, suffixes-none}
use Rattle.dns_name.proofs.parsed.suffixes.ParsedName+ref+slice+u8.to_parent.Goals as goal

pub returns-in-Some : goal.returns-in-Some
returns-in-Some c = suffixes-behind c.in-Some.ensures.some.1

pub returns-in-None : goal.returns-in-None
returns-in-None c = suffixes-none c.in-None.ensures.none.0
