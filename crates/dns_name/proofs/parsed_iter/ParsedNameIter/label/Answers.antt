use Rattle.std.proofs.lemmas.Iterator.Consumers.{nth_from_yields_List, YieldsList-from_first}
use Rattle.std.proofs.Common.{refl}
use Rattle.dns_label.specs.Label.{label_octets}
use Rattle.dns_name.proofs.parsed_iter.ParsedNameIter.label.Goals as goal

pub returns : goal.returns
returns c = nth_from_yields_List c.nth.result _ _ c.nth.ensures.ran (YieldsList-from_first label_octets (λ labels. labels) c.args.self refl)
