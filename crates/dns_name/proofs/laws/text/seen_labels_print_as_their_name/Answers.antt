use Rattle.dns_flat.proofs.PrintedNames.{seen-name, seen-relative}
use Rattle.dns_name.proofs.laws.text.seen_labels_print_as_their_name.Goals as goal

pub returns-clause-absolute : goal.returns-clause-absolute
returns-clause-absolute c = λ name is_name. seen-name name is_name.labels

pub returns-clause-relative : goal.returns-clause-relative
returns-clause-relative c = λ name is_name. seen-relative name is_name.labels
