use Rattle.dns_label.proofs.Seeing.{seen-labels_seen, labels_seen-spelled, length-labels_seen}
use Rattle.dns_label.proofs.label.Label.iter_slice.Goals as goal

pub returns-clause-seen : goal.returns-clause-seen
returns-clause-seen c = seen-labels_seen c.args.octets.now 255 c.args.start

pub returns-clause-name : goal.returns-clause-name
returns-clause-name c = λ name next spells. labels_seen-spelled c.args.octets.now spells

pub returns-clause-few : goal.returns-clause-few
returns-clause-few c = length-labels_seen c.args.octets.now 255 c.args.start
