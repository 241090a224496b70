use Rattle.dns_zonefile.proofs.Lengthened.{lengthened}
use Rattle.dns_zonefile.proofs.laws.longer_texts_have_more_entries.Goals as goal

pub returns : goal.returns
returns c = λ start after text more rows entries all begins are has. lengthened more begins are has
