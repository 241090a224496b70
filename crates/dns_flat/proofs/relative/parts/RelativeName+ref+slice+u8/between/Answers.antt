use Rattle.dns_flat.proofs.PartForms.{start_behind, is_between}
use Rattle.dns_flat.proofs.relative.parts.RelativeName+ref+slice+u8.between.Goals as goal

pub front-requires : goal.front-requires
front-requires c = start_behind c.back.ensures c.requires.end c.requires.in_order

pub returns : goal.returns
returns c = is_between c.back.ensures c.requires.in_order c.front.ensures
